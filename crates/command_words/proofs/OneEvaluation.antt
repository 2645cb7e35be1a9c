-- Plain words ask for one evaluation only: each binding can be read in one way.
use Rattle.std.proofs.Common.{◌≡◌, ℕ, List, [], ◌∷◌, ◌++◌, true, false, refl, sym, ap, subst, ◌∙◌, inl, inr, arith}
use Rattle.std.specs.List.{AllZip}
use Rattle.std.specs.Prelude.{ℤ}
use Rattle.az_text.specs.Tokens.{AllAre, IsNumber, is_word_byte}
use Rattle.command_words.proofs.Cuts.{word_bytes}
use Rattle.command_words.specs.Bindings.{IsMagnitude, IsInteger, IsBinding}
use Rattle.command_words.specs.Evaluations.{HasPlain}
use Rattle.command_words.specs.declared.binding.Binding.{Binding}
use Rattle.command_words.specs.declared.binding.Binding.TheVariants.{Parameter, Table}
use Rattle.command_words.specs.declared.evaluation.Evaluation.{Evaluation}

no_dash : (digits rest : List ℕ) → IsNumber digits → digits ≡ 45 ∷ rest → ⊥
no_dash digits rest is e =
    let number : IsNumber (45 ∷ rest) = subst IsNumber e is in
    let bad : false ≡ true = number.0 in
    cc

one_magnitude : (a b : List ℕ) (m n : ℕ) → IsMagnitude a m → IsMagnitude b n → a ≡ b → m ≡ n
one_magnitude a b m n p q e = cc (p.value, q.value, e)

one_integer : (bytes : List ℕ) (a b : ℤ) → IsInteger bytes a → IsInteger bytes b → a ≡ b
one_integer bytes a b (d, m, p, inl (e, v)) (f, n, q, inl (g, w)) = let same = one_magnitude d f m n p q (sym e ∙ g) in cc
one_integer bytes a b (d, m, p, inl (e, v)) (f, n, q, inr (g, w)) = absurd (no_dash d f p.digits_only (sym e ∙ g))
one_integer bytes a b (d, m, p, inr (e, v)) (f, n, q, inl (g, w)) = absurd (no_dash f d q.digits_only (sym g ∙ e))
one_integer bytes a b (d, m, p, inr (e, v)) (f, n, q, inr (g, w)) =
    let both : 45 ∷ d ≡ 45 ∷ f = sym e ∙ g in
    let same = one_magnitude d f m n p q cc in
    cc

not_mark : (c b : ℕ) → is_word_byte c ≡ false → is_word_byte b ≡ true → c ≡ b → ⊥
not_mark c b apart word e = let bad : false ≡ true = sym apart ∙ (ap is_word_byte e ∙ word) in cc

pub record OneCut (c d : ℕ) (name other rest more : List ℕ) : Type 0 where
  pub names : name ≡ other
  pub marks : c ≡ d
  pub rests : rest ≡ more

-- a name ends where a byte stands that no name has
one_cut : (c d : ℕ) → is_word_byte c ≡ false → is_word_byte d ≡ false → (name other rest more : List ℕ) → AllAre is_word_byte name → AllAre is_word_byte other
    → name ++ c ∷ rest ≡ other ++ d ∷ more → OneCut c d name other rest more
one_cut c d p q [] [] rest more all every e = record { names = refl; marks = cc; rests = cc }
one_cut c d p q [] (b ∷ other) rest more all every e = absurd (not_mark c b p every.0 cc)
one_cut c d p q (b ∷ name) [] rest more all every e = absurd (not_mark d b q all.0 cc)
one_cut c d p q (a ∷ name) (b ∷ other) rest more all every e =
    let inner = one_cut c d p q name other rest more all.1 every.1 cc in
    let front : a ≡ b = cc in
    record { names = cc (inner.names, front); marks = inner.marks; rests = inner.rests }

one_binding : (word : List ℕ) (a b : Binding) → IsBinding word a → IsBinding word b → a ≡ b
one_binding word (Parameter name number) (Parameter other more) (digits, e, is, int) (digits', e', is', int') =
    let cut = one_cut 61 61 refl refl name other digits digits' (word_bytes name is) (word_bytes other is') (sym e ∙ e') in
    let same : number ≡ more = one_integer digits number more int (subst (λ d. IsInteger d more) (sym cut.rests) int') in
    cc (cut.names, same)
one_binding word (Parameter name number) (Table other file) (digits, e, is, int) (e', is', some) =
    let cut = one_cut 61 64 refl refl name other digits file (word_bytes name is) (word_bytes other is') (sym e ∙ e') in
    let bad : ◌≡◌ {A = ℕ} 61 64 = cut.marks in
    absurd (omega arith)
one_binding word (Table name file) (Parameter other number) (e, is, some) (digits, e', is', int) =
    let cut = one_cut 64 61 refl refl name other file digits (word_bytes name is) (word_bytes other is') (sym e ∙ e') in
    let bad : ◌≡◌ {A = ℕ} 64 61 = cut.marks in
    absurd (omega arith)
one_binding word (Table name file) (Table other more) (e, is, some) (e', is', some') =
    let cut = one_cut 64 64 refl refl name other file more (word_bytes name is) (word_bytes other is') (sym e ∙ e') in
    cc (cut.names, cut.rests)

one_bindings : (words : List (List ℕ)) (first second : List Binding) → AllZip IsBinding words first → AllZip IsBinding words second → first ≡ second
one_bindings [] [] [] p q = refl
one_bindings [] [] (b ∷ second) p q = absurd q
one_bindings [] (a ∷ first) second p q = absurd p
one_bindings (word ∷ words) [] second p q = absurd p
one_bindings (word ∷ words) (a ∷ first) [] p q = absurd q
one_bindings (word ∷ words) (a ∷ first) (b ∷ second) p q =
    let front : a ≡ b = one_binding word a b p.0 q.0 in
    let rest : first ≡ second = one_bindings words first second p.1 q.1 in
    cc

pub one_plain : (plain : List (List ℕ)) (e f : Evaluation) → HasPlain plain e → HasPlain plain f → e ≡ f
one_plain plain e f p q =
    let words : e.program ∷ p.bindings ≡ f.program ∷ q.bindings = sym p.words ∙ q.words in
    let behind : p.bindings ≡ q.bindings = cc in
    let program : e.program ≡ f.program = cc in
    let bindings : e.bindings ≡ f.bindings = one_bindings p.bindings e.bindings f.bindings p.bound (subst (λ ws. AllZip IsBinding ws f.bindings) (sym behind) q.bound) in
    ap (λ (name : List ℕ). record { program = name; bindings = e.bindings }) program
    ∙ ap (λ (all : List Binding). record { program = f.program; bindings = all }) bindings
