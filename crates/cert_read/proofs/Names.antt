-- The names of a writable program: each is one variable's, and none has a space or a line feed.
use Rattle.std.proofs.Common.{◌≡◌, ℕ, zero, suc, ◌<◌, Bool, true, not, List, [], ◌∷◌, length, get_or, Some, refl, sym, ap, subst, ◌∙◌, arith}
use Rattle.std.specs.Prelude.{◌==◌, ◌||◌, slice_get}
use Rattle.std.specs.Char.{is_ascii_alphabetic, is_ascii_alphanumeric}
use Rattle.std.specs.List.{list_all, list_any}
use Rattle.std.specs.Option.{option_map_or}
use Rattle.std.specs.Str.{bytes_eq}
use Rattle.std.proofs.lemmas.Bool.{false≢true, and_parts}
use Rattle.std.proofs.lemmas.Bool.Decides.{nat_tests}
use Rattle.std.proofs.lemmas.Option.{get_or_from_slice_get}
use Rattle.az_ast.specs.Shapes.{IsProgram}
use Rattle.az_ast.specs.System.{System}
use Rattle.az_ast.specs.Writable.{IsWritable, is_name, is_word, reserved_words}
use Rattle.az_ast.specs.declared.program.Variable.{Variable}
use Rattle.az_ast.proofs.ProgramNames.{variables-differ}
use Rattle.az_text.specs.Tokens.{AllAre, is_before_line_feed}
use Rattle.line_fields.specs.Fields.{is_in_word}
use Rattle.target_map.specs.Refusals.{name_of}

pub at_place : {A : Type 0} (xs : List A) (i : ℕ) → i < length xs → (x : A) × (slice_get xs i ≡ Some x)
at_place [] i within = absurd (omega (arith, within))
at_place (x ∷ xs) zero within = (x, refl)
at_place (x ∷ xs) (suc i) within = at_place xs i (omega (arith, within))

pub named : (p : System) (x : ℕ) (v : Variable) → slice_get p.variables x ≡ Some v → name_of p x ≡ v.name
named p x v here = ap (λ o. option_map_or (λ (variable : Variable). variable.name) o []) here

-- bytes of a word
module _ (test : ℕ → Bool) (letters : (b : ℕ) → is_ascii_alphabetic b ≡ true → test b ≡ true) (others : (b : ℕ) → (is_ascii_alphanumeric b || b == 95) ≡ true → test b ≡ true) where
  rest_passes : (bytes : List ℕ) → list_all (λ b. is_ascii_alphanumeric b || b == 95) bytes ≡ true → AllAre test bytes
  rest_passes [] all = tt
  rest_passes (b ∷ bytes) all =
      let both = and_parts (is_ascii_alphanumeric b || b == 95) (list_all (λ b. is_ascii_alphanumeric b || b == 95) bytes) all in
      (others b both.0, rest_passes bytes both.1)

  word_passes : (bytes : List ℕ) → is_word bytes ≡ true → AllAre test bytes
  word_passes [] is = absurd (false≢true is)
  word_passes (b ∷ bytes) is =
      let both = and_parts (is_ascii_alphabetic b) (list_all (λ b. is_ascii_alphanumeric b || b == 95) bytes) is in
      (letters b both.0, rest_passes bytes both.1)

  name_passes : (p : System) → IsWritable p → (x : ℕ) → x < length p.variables → AllAre test (name_of p x)
  name_passes p writable x within =
      let here = at_place p.variables x within in
      let v = here.0 in
      let got : get_or p.variables x v ≡ v = get_or_from_slice_get p.variables x v v here.1 in
      let told : is_name v.name ≡ true = subst (λ (w : Variable). is_name w.name ≡ true) got (writable.variables x v within) in
      let word : is_word v.name ≡ true = (and_parts (is_word v.name) (not (list_any (λ reserved. bytes_eq reserved v.name) reserved_words)) told).0 in
      subst (AllAre test) (sym (named p x v here.1)) (word_passes v.name word)

pub name_in_word : (p : System) → IsWritable p → (x : ℕ) → x < length p.variables → AllAre is_in_word (name_of p x)
name_in_word = name_passes is_in_word (λ b h. grind (arith, nat_tests)) (λ b h. grind (arith, nat_tests))

pub name_in_line : (p : System) → IsWritable p → (x : ℕ) → x < length p.variables → AllAre is_before_line_feed (name_of p x)
name_in_line = name_passes is_before_line_feed (λ b h. grind (arith, nat_tests)) (λ b h. grind (arith, nat_tests))

pub one_variable : (p : System) → IsProgram p → (x y : ℕ) → x < length p.variables → y < length p.variables → name_of p x ≡ name_of p y → x ≡ y
one_variable p rules x y in_x in_y same =
    let v = at_place p.variables x in_x in
    let w = at_place p.variables y in_y in
    variables-differ p rules x y v.0 w.0 v.1 w.1 (sym (named p x v.0 v.1) ∙ same ∙ named p y w.0 w.1)
