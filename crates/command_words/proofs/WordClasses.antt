-- Words before a `--`, as the line's definition and the parser of command lines tell them apart.
use Rattle.std.proofs.Common.{◌≡◌, ◌∙◌, ◌⊎◌, ℕ, suc, List, [], ◌∷◌, ◌++◌, Bool, true, false, ◌&&◌, ◌==◌, codes, take, drop, Some, None, refl, sym, ap, subst, inl, inr, arith, chars, IsUtf8, bytes_eq, length, slice_get, eqb-true, one-add, take-append-drop}
use Rattle.std.specs.List.{before_first}
use Rattle.std.specs.Option.{option_map_or}
use lib.Utf8.{encodes}
use Rattle.std.proofs.lemmas.Slice.Eq.{bytes_eq-Decides}
use Rattle.std.proofs.lemmas.Str.{IsUtf8-drop, IsCharBoundary-after_ascii, encodes-chars}
use Rattle.clap.specs.Faults.{bundle_fault, bundle_step_fault, flag_word_fault, flags_fault}
use Rattle.clap.specs.Lexer.{long_of, short_of}
use Rattle.clap.specs.Simple.{Shape, built}
use Rattle.clap.specs.Walk.{Held, Rule}
use Rattle.clap.specs.declared.error.kind.ErrorKind.TheVariants.{UnknownArgument}
use Rattle.command_words.specs.Lines.{joined_count}
use Rattle.command_words.specs.Parsing.{line_app}
use Rattle.command_words.specs.Words.{is_plain}

-- the command as the parser completes it
abbrev pub shape : Shape
shape = (built line_app).top

abbrev pub rules : List Rule
rules = shape.rules

-- a word that is no option and isn't empty
pub record IsPlainWord (word : List ℕ) : Type 0 where
  pub some : bytes_eq word [] ≡ false
  pub ended : bytes_eq word (codes "--") ≡ false
  pub plain : is_plain word ≡ true
  pub long : long_of word ≡ None
  pub short : short_of word ≡ None

-- a word that is an option, and not the one that there is
pub record IsOther (word : List ℕ) : Type 0 where
  pub some : bytes_eq word [] ≡ false
  pub ended : bytes_eq word (codes "--") ≡ false
  pub plain : is_plain word ≡ false
  pub apart : bytes_eq word (codes "--workers") ≡ false
  pub joined : joined_count word ≡ None
  pub refused : (h : Held) → h.skip ≡ 0 → flag_word_fault rules false (long_of word) word h ≡ UnknownArgument ∷ []

abbrev is_equals : ℕ → Bool
is_equals b = b == 61

no_more : (b : Bool) → (b && false) ≡ false
no_more true = refl
no_more false = refl

-- a text is what stands before its first `=`, or goes on there
cut : (text : List ℕ) → (text ≡ before_first is_equals text) ⊎ ((more : List ℕ) × (text ≡ before_first is_equals text ++ 61 ∷ more))
cut [] = inl refl
cut (b ∷ text) = by (is_equals b) refl (cut text)
  where
    by : (t : Bool) → is_equals b ≡ t → (text ≡ before_first is_equals text) ⊎ ((more : List ℕ) × (text ≡ before_first is_equals text ++ 61 ∷ more))
        → (b ∷ text ≡ before_first is_equals (b ∷ text)) ⊎ ((more : List ℕ) × (b ∷ text ≡ before_first is_equals (b ∷ text) ++ 61 ∷ more))
    by true e rest = inr (text, rw e (ap (λ c. c ∷ text) (eqb-true b 61 e)))
    by false e (inl whole) = inl (rw (e, one-add) (ap (λ t. b ∷ t) whole))
    by false e (inr (more, is)) = inr (more, rw (e, one-add) (ap (λ t. b ∷ t) is))

-- only `--workers`, or with a `=` behind it, names the option
other_name : (text : List ℕ) → bytes_eq (45 ∷ 45 ∷ text) (codes "--workers") ≡ false → bytes_eq (take 10 (45 ∷ 45 ∷ text)) (codes "--workers=") ≡ false
    → bytes_eq (codes "workers") (before_first is_equals text) ≡ true → ⊥
other_name text apart joined named =
    let name : codes "workers" ≡ before_first is_equals text = (bytes_eq-Decides (codes "workers") (before_first is_equals text)).0 named in
    by name (cut text)
  where
    by : codes "workers" ≡ before_first is_equals text → (text ≡ before_first is_equals text) ⊎ ((more : List ℕ) × (text ≡ before_first is_equals text ++ 61 ∷ more)) → ⊥
    by name (inl whole) =
        let bad : true ≡ false = sym (ap (λ t. bytes_eq (45 ∷ 45 ∷ t) (codes "--workers")) (whole ∙ sym name)) ∙ apart in
        cc
    by name (inr (more, is)) =
        let bad : true ≡ false = sym (ap (λ t. bytes_eq (take 10 (45 ∷ 45 ∷ t)) (codes "--workers=")) (is ∙ ap (λ n. n ++ 61 ∷ more) (sym name))) ∙ joined in
        cc

-- no short option is known
no_short : (flags : List ℕ) (h : Held) (skip k x : ℕ) → skip ≡ 0 → slice_get (chars flags) 0 ≡ Some x → flags_fault rules false (suc k) flags skip h ≡ UnknownArgument ∷ []
unfolding flags_fault
no_short flags h skip k x none first =
    ap (λ n. flags_fault rules false (suc k) flags n h) none ∙ ap (λ o. bundle_step_fault rules false o flags 0 h (flags_fault rules false k)) first

-- a text that isn't empty has a character
first_char : (b : ℕ) (bytes : List ℕ) → IsUtf8 (b ∷ bytes) → (x : ℕ) × (slice_get (chars (b ∷ bytes)) 0 ≡ Some x)
first_char b bytes utf8 = by (chars (b ∷ bytes)) (encodes-chars (b ∷ bytes) utf8)
  where
    by : (cs : List ℕ) → encodes cs ≡ b ∷ bytes → (x : ℕ) × (slice_get cs 0 ≡ Some x)
    by [] e = cc
    by (c ∷ cs) e = (c, refl)

module _ (P : List ℕ → Type 0) (empty : P [])
    (plain : (word : List ℕ) → IsPlainWord word → P word)
    (end : P (codes "--")) (apart : P (codes "--workers")) (joined : (count : List ℕ) → P (codes "--workers=" ++ count)) (other : (word : List ℕ) → IsOther word → P word) where
  one_byte : (b : ℕ) → P (b ∷ [])
  one_byte b = by (b == 45) refl
    where
      by : (t : Bool) → (b == 45) ≡ t → P (b ∷ [])
      by true e = plain (b ∷ []) (record { some = refl; ended = no_more (b == 45); plain = refl; long = rw e refl; short = rw e refl })
      by false e = plain (b ∷ []) (record { some = refl; ended = no_more (b == 45); plain = refl; long = rw e refl; short = rw e refl })

  long : (b : ℕ) (text : List ℕ) → P (45 ∷ 45 ∷ b ∷ text)
  long b text = by (bytes_eq word (codes "--workers")) refl (bytes_eq (take 10 word) (codes "--workers=")) refl
    where
      word : List ℕ
      word = 45 ∷ 45 ∷ b ∷ text

      by : (s : Bool) → bytes_eq word (codes "--workers") ≡ s → (t : Bool) → bytes_eq (take 10 word) (codes "--workers=") ≡ t → P word
      by true e t f = subst P (sym ((bytes_eq-Decides word (codes "--workers")).0 e)) apart
      by false e true f =
          let front : take 10 word ≡ codes "--workers=" = (bytes_eq-Decides (take 10 word) (codes "--workers=")).0 f in
          subst P (ap (λ t. t ++ drop 10 word) (sym front) ∙ take-append-drop 10 word) (joined (drop 10 word))
      by false e false f =
          other word (record {
            some = refl;
            ended = refl;
            plain = refl;
            apart = e;
            joined = rw f refl;
            refused = λ h none. named (bytes_eq (codes "workers") (before_first is_equals (b ∷ text))) refl h;
          })
        where
          named : (t : Bool) → bytes_eq (codes "workers") (before_first is_equals (b ∷ text)) ≡ t → (h : Held) → flag_word_fault rules false (long_of word) word h ≡ UnknownArgument ∷ []
          named true g h = absurd (other_name (b ∷ text) e f g)
          named false g h = rw g refl

  short : (b : ℕ) (flags : List ℕ) → (b == 45) ≡ false → IsUtf8 (b ∷ flags) → P (45 ∷ b ∷ flags)
  short b flags e utf8 =
      let first = first_char b flags utf8 in
      let long_is : long_of (45 ∷ b ∷ flags) ≡ None = rw e refl in
      let short_is : short_of (45 ∷ b ∷ flags) ≡ Some (b ∷ flags) = rw e refl in
      other (45 ∷ b ∷ flags) (record {
        some = refl;
        ended = rw e refl;
        plain = refl;
        apart = rw e refl;
        joined = rw e refl;
        refused = λ h none.
            ap (λ o. flag_word_fault rules false o (45 ∷ b ∷ flags) h) long_is
            ∙ (ap (λ o. option_map_or (λ fs. bundle_fault rules false fs h) o []) short_is ∙ no_short (b ∷ flags) (record h { skip = 0 }) h.skip (length flags) first.0 none first.1);
      })

  dashed : (b : ℕ) (text : List ℕ) → IsUtf8 (45 ∷ b ∷ text) → P (45 ∷ b ∷ text)
  dashed b text utf8 = by (b == 45) refl
    where
      behind : (text : List ℕ) → P (45 ∷ 45 ∷ text)
      behind [] = end
      behind (b ∷ text) = long b text

      by : (t : Bool) → (b == 45) ≡ t → P (45 ∷ b ∷ text)
      by true e = subst (λ c. P (45 ∷ c ∷ text)) (sym (eqb-true b 45 e)) (behind text)
      by false e = short b text e (IsUtf8-drop (45 ∷ b ∷ text) 1 utf8 (IsCharBoundary-after_ascii (45 ∷ b ∷ text) 0 utf8 (omega arith) (omega arith)))

  pub by_class : (word : List ℕ) → IsUtf8 word → P word
  by_class [] utf8 = empty
  by_class (b ∷ []) utf8 = one_byte b
  by_class (b ∷ c ∷ text) utf8 = by (b == 45) refl
    where
      by : (t : Bool) → (b == 45) ≡ t → P (b ∷ c ∷ text)
      by true e =
          let dash : b ≡ 45 = eqb-true b 45 e in
          subst (λ d. P (d ∷ c ∷ text)) (sym dash) (dashed c text (subst (λ d. IsUtf8 (d ∷ c ∷ text)) dash utf8))
      by false e =
          plain (b ∷ c ∷ text) (record { some = refl; ended = rw e refl; plain = rw e refl; long = rw e refl; short = rw e refl })
