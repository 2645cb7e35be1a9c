-- Steps that are passed or refused, and not both; and that give one value.
use Rattle.std.proofs.Common.{◌≡◌, ℕ, ◌<◌, ◌≤◌, ◌^◌, length, inl, inr, refl, sym, subst, ap, ◌∙◌, arith}
use Rattle.std.specs.Prelude.{Result, Ok, Err, Option, Some, None, List, [], ◌∷◌, ℤ, set}
use Rattle.az_ast.specs.System.{System}
use Rattle.az_desk.specs.Files.{Files, content_of}
use Rattle.session_state.specs.Session.{Session, opened}
use Rattle.session_state.specs.Settings.{Settings, place_of, parameter, coordinate, set_parameter}
use Rattle.session_state.specs.Texts.{text_of}
use Rattle.session_state.specs.Steps.{Step, ◌>>=◌, answers, gives, some_or, unless, holds_or, each_in}
use Rattle.session_state.specs.declared.refusal.Refusal.{Refusal}
use Rattle.session_state.specs.declared.refusal.Refusal.TheVariants.{Command}
use Rattle.session_state.specs.declared.session.Loaded.{Loaded}
use Rattle.az_ast.specs.declared.reason.Reason.TheVariants.{NoProgram, Unknown}
use Rattle.session_state.specs.declared.stop.Stop.{Stop}
use Rattle.session_state.specs.declared.stop.Stop.TheVariants.{Refused}

abbrev pub IsOne : {A : Type 0} → Step A → Type 0
IsOne step = (x y : _) → step (Ok x) → step (Ok y) → x ≡ y

abbrev pub NotBoth : {A : Type 0} → Step A → Type 0
NotBoth step = (x : _) (refusal : Refusal) → step (Ok x) → step (Err (Refused refusal)) → ⊥

module _ {A B : Type 0} (first : Step A) (rest : A → Step B) where
  pub one_then : IsOne first → ((x : A) → IsOne (rest x)) → IsOne (first >>= rest)
  one_then one each x y (a, h, more) (b, k, other) = each a x y more (subst (λ v. rest v (Ok y)) (one b a k h) other)

  pub not_both_then : IsOne first → NotBoth first → ((x : A) → NotBoth (rest x)) → NotBoth (first >>= rest)
  not_both_then one apart each x refusal (a, h, more) (inl stops) = apart a refusal h stops
  not_both_then one apart each x refusal (a, h, more) (inr (b, k, other)) = each a x refusal more (subst (λ v. rest v (Err (Refused refusal))) (one b a k h) other)

module _ {A : Type 0} (answer : Result A Stop) where
  pub one_answer : IsOne (answers answer)
  one_answer x y h k = cc

  pub not_both_answers : NotBoth (answers answer)
  not_both_answers x refusal h k = cc

module _ {A : Type 0} (why : Refusal) where
  pub one_of_some : (o : Option A) → IsOne (some_or why o)
  one_of_some (Some v) = one_answer (Ok v)
  one_of_some None = one_answer (Err (Refused why))

  pub not_both_of_some : (o : Option A) → NotBoth (some_or why o)
  not_both_of_some (Some v) = not_both_answers (Ok v)
  not_both_of_some None = not_both_answers (Err (Refused why))

pub not_both_unless : (cause : Option Refusal) → NotBoth (unless cause)
not_both_unless None = not_both_answers (Ok tt)
not_both_unless (Some why) = not_both_answers (Err (Refused why))

-- what gives nothing gives one thing
pub one_nothing : (step : Step (Unit {0})) → IsOne step
one_nothing step x y h k = refl

pub not_both_holds : (why : Refusal) (claim : Type 0) → NotBoth (holds_or why claim)
not_both_holds why claim x refusal h k = k.1 h

module _ {S B : Type 0} (one : S → B → Step S) (each_one : (state : S) (item : B) → IsOne (one state item)) where
  pub one_each : (items : List B) (state : S) → IsOne (each_in one state items)
  one_each [] state = one_answer (Ok state)
  one_each (item ∷ items) state = one_then (one state item) (λ more. each_in one more items) (each_one state item) (λ more. one_each items more)

  pub not_both_each : ((state : S) (item : B) → NotBoth (one state item)) → (items : List B) (state : S) → NotBoth (each_in one state items)
  not_both_each apart [] state = not_both_answers (Ok state)
  not_both_each apart (item ∷ items) state =
      not_both_then (one state item) (λ more. each_in one more items) (each_one state item) (apart state item) (λ more. not_both_each apart items more)

-- what is asked of a program that was read
module _ {A : Type 0} (session : Session) (rest : Loaded → Step A) where
  pub one_opened : ((loaded : Loaded) → IsOne (rest loaded)) → IsOne (opened session >>= rest)
  one_opened each = one_then (opened session) rest (one_of_some (Command NoProgram) session) each

  pub not_both_opened : ((loaded : Loaded) → NotBoth (rest loaded)) → NotBoth (opened session >>= rest)
  not_both_opened each = not_both_then (opened session) rest (one_of_some (Command NoProgram) session) (not_both_of_some (Command NoProgram) session) each

-- to set a parameter is one thing, or refused
module _ (p : System) (settings : Settings) (name : List ℕ) (number : ℤ) where
  pub one_setting : IsOne (set_parameter p settings name number)
  one_setting =
      one_then (parameter p name) (λ place. coordinate number >>= (λ small. gives (set settings place (Some small)))) (one_of_some (Command (Unknown name)) (place_of p name)) (λ place.
      one_then (coordinate number) (λ small. gives (set settings place (Some small))) (one_answer _) (λ small. one_answer _))

  pub not_both_setting : NotBoth (set_parameter p settings name number)
  not_both_setting =
      not_both_then (parameter p name) (λ place. coordinate number >>= (λ small. gives (set settings place (Some small))))
      (one_of_some (Command (Unknown name)) (place_of p name)) (not_both_of_some (Command (Unknown name)) (place_of p name)) (λ place.
      not_both_then (coordinate number) (λ small. gives (set settings place (Some small))) (one_answer _) (not_both_answers _) (λ small. not_both_answers _))

-- a text is given once, or is too long
pub one_text : (told : Files) (file : List ℕ) → IsOne (text_of (Some told) file)
one_text told file x y h k = h.1 told refl ∙ sym (k.1 told refl)

pub not_both_text : (told : Files) (file : List ℕ) → NotBoth (text_of (Some told) file)
not_both_text told file text refusal h k =
    let long : 2 ^ 24 < length (content_of told file) = k.1 told refl in
    let short : length text ≤ 2 ^ 24 = h.0 in
    let same : text ≡ content_of told file = h.1 told refl in
    omega (arith, ap length same)
