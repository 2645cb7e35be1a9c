-- What is found for a command, and what none of its lines says.
use Rattle.std.proofs.Common.{◌≡◌, ℕ, ◌<◌, ◌^◌, List, [], ◌∷◌, codes, refl, sym, ap, ◌∙◌, append-nil, arith}
use Rattle.std.specs.Fmt.{decimal}
use Rattle.grammar_rules.specs.Decimals.{BeginsWithNatural}
use Rattle.grammar_rules.proofs.DecimalLaws.{naturals_are_one}
use Rattle.command_words.specs.Evaluations.{HasPlain}
use Rattle.command_words.specs.Lines.{Line}
use Rattle.command_words.specs.Requests.{command_of, HasLine}
use Rattle.command_words.specs.declared.evaluation.Evaluation.{Evaluation}
use Rattle.command_words.specs.declared.request.Request.{Request}
use Rattle.command_words.specs.declared.request.Request.TheVariants.{Eval, Run, Check, Make}

abbrev pub first_byte : List ℕ → ℕ
first_byte [] = 0
first_byte (b ∷ bytes) = b

-- the words of commands differ in their first byte
pub differ : (a b : List ℕ) (m n : ℕ) → first_byte a ≡ m → first_byte b ≡ n → (m ≡ n → ⊥) → a ≡ b → ⊥
differ a b m n p q apart same = apart (sym p ∙ (ap first_byte same ∙ q))

pub no_evaluation : (line : Line) → ((e : Evaluation) → HasPlain line.plain e → ⊥) → (request : Request) → command_of request ≡ codes "eval" → HasLine line request → ⊥
no_evaluation line none (Eval e) is has = none e has.1
no_evaluation line none (Run s w) is has = differ (codes "run") (codes "eval") 114 101 refl refl (λ e. absurd (omega (arith, e))) is
no_evaluation line none (Check s c) is has = differ (codes "check") (codes "eval") 99 101 refl refl (λ e. absurd (omega (arith, e))) is
no_evaluation line none (Make n w) is has = differ (codes "make") (codes "eval") 109 101 refl refl (λ e. absurd (omega (arith, e))) is

-- a text that is a number in decimal begins with that number
pub begins : (text : List ℕ) (n : ℕ) → n < 2 ^ 128 → text ≡ decimal n → BeginsWithNatural text n []
begins text n fits is = record { fits = fits; whole = is ∙ sym (append-nil (decimal n)); ended = tt }

-- and with no other
pub one_decimal : (text : List ℕ) (m n : ℕ) → m < 2 ^ 128 → n < 2 ^ 128 → text ≡ decimal m → text ≡ decimal n → m ≡ n
one_decimal text m n p q is also = (naturals_are_one text m n [] [] (begins text m p is) (begins text n q also)).0
