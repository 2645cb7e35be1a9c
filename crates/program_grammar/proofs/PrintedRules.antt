-- The rules as printed take the same: a part before a choice is the choice of the part before each.
use Rattle.std.proofs.Common.{◌≡◌, ℕ, ◌+◌, List, [], ◌++◌, inl, inr, Option, subst, arith, append-nil}
use Rattle.az_text.specs.declared.token.Token.{Token}
use Rattle.grammar_rules.specs.Rules.{Rule, TakesToken, FrontOfToken}
use Rattle.grammar_rules.specs.Rules.TakesSequence.{both}
use Rattle.grammar_rules.specs.Rules.FrontOfSequence.{of_first, of_rest}
use Rattle.grammar_rules.specs.Rules.TakesMapped.{mapped}
use Rattle.grammar_rules.specs.Rules.TakesNothing.{nothing}
use Rattle.grammar_rules.specs.Rules.FrontOfNothing.{only_empty}
use Rattle.grammar_rules.specs.Rules.TakesToken.{this}
use Rattle.grammar_rules.specs.Rules.FrontOfToken.{behind}
use Rattle.program_grammar.specs.declared.tree.Expr.{Expr}
use Rattle.program_grammar.specs.Grammar.{scaled, access, unary, expr}
use Rattle.program_grammar.specs.Printed.{printed_term, printed_access, printed_unary, PrintedRulesAreSame, alone, index_of}
use Rattle.program_grammar.specs.Values as value

-- a token, and nothing behind it
token_front : {A : Type 0} (value : Token → Option A) (weight : ℕ) (us : List Token) (w : ℕ) (a : A) → TakesToken value weight us w a → FrontOfToken value weight us w
token_front value weight us w a (this t x is) = behind t x is

no_more : {A : Type 0} (P : List Token → ℕ → A → Type 0) (us : List Token) (w : ℕ) (a : A) → P us w a → P (us ++ []) (w + 0) a
no_more P us w a p = rw append-nil (subst (λ (n : ℕ). P us n a) (omega arith) p)

no_more_front : (P : List Token → ℕ → Type 0) (us : List Token) (w : ℕ) → P us w → P (us ++ []) (w + 0)
no_more_front P us w p = rw append-nil (subst (λ (n : ℕ). P us n) (omega arith) p)

only_this : {A : Type 0} (P : List Token → ℕ → A → Type 0) (us : List Token) (w : ℕ) (a : A) → P (us ++ []) (w + 0) a → P us w a
only_this P us w a p = let nil = append-nil us in let same : w + 0 ≡ w = omega arith in subst (λ (n : ℕ). P us n a) same (subst (λ ys. P ys (w + 0) a) nil p)

-- a term
term_to : (us : List Token) (w : ℕ) (a : value.Scaled) → scaled.takes us w a → printed_term.takes us w a
term_to us w a (inl (both {us = xs} {v} {a = n} t (inr nothing))) = no_more printed_term.takes xs v (alone n) (inl (mapped t))
term_to us w a (inl (both t (inl (mapped (inl s))))) = inr (inl (both t s))
term_to us w a (inl (both t (inl (mapped (inr m))))) = inr (inr (inl (both t m)))
term_to us w a (inr m) = inr (inr (inr m))

term_from : (us : List Token) (w : ℕ) (a : value.Scaled) → printed_term.takes us w a → scaled.takes us w a
term_from us w a (inl (mapped {a = n} t)) = only_this scaled.takes us w (alone n) (inl (both t (inr nothing)))
term_from us w a (inr (inl (both t s))) = inl (both t (inl (mapped (inl s))))
term_from us w a (inr (inr (inl (both t m)))) = inl (both t (inl (mapped (inr m))))
term_from us w a (inr (inr (inr m))) = inr m

term_front_to : (us : List Token) (w : ℕ) → scaled.front us w → printed_term.front us w
term_front_to us w (inl (of_first f)) = inl f
term_front_to us w (inl (of_rest {us = xs} {v} {a = n} t (inr only_empty))) = no_more_front printed_term.front xs v (inl (token_front _ 0 xs v n t))
term_front_to us w (inl (of_rest t (inl (inl s)))) = inr (inl (of_rest t s))
term_front_to us w (inl (of_rest t (inl (inr m)))) = inr (inr (inl (of_rest t m)))
term_front_to us w (inr m) = inr (inr (inr m))

term_front_from : (us : List Token) (w : ℕ) → printed_term.front us w → scaled.front us w
term_front_from us w (inl f) = inl (of_first f)
term_front_from us w (inr (inl (of_first f))) = inl (of_first f)
term_front_from us w (inr (inl (of_rest t s))) = inl (of_rest t (inl (inl s)))
term_front_from us w (inr (inr (inl (of_first f)))) = inl (of_first f)
term_front_from us w (inr (inr (inl (of_rest t m)))) = inl (of_rest t (inl (inr m)))
term_front_from us w (inr (inr (inr m))) = inr m

-- an access
access_to : (us : List Token) (w : ℕ) (e : Expr) → access.takes us w e → printed_access.takes us w e
access_to us w e (both {us = xs} {v} {a = x} t (inr nothing)) = no_more printed_access.takes xs v (index_of x) (inl (mapped t))
access_to us w e (both t (inl (mapped r))) = inr (both t r)

access_from : (us : List Token) (w : ℕ) (e : Expr) → printed_access.takes us w e → access.takes us w e
access_from us w e (inl (mapped {a = x} t)) = only_this access.takes us w (index_of x) (both t (inr nothing))
access_from us w e (inr (both t r)) = both t (inl (mapped r))

access_front_to : (us : List Token) (w : ℕ) → access.front us w → printed_access.front us w
access_front_to us w (of_first f) = inl f
access_front_to us w (of_rest {us = xs} {v} {a = x} t (inr only_empty)) = no_more_front printed_access.front xs v (inl (token_front _ 1 xs v x t))
access_front_to us w (of_rest t (inl r)) = inr (of_rest t r)

access_front_from : (us : List Token) (w : ℕ) → printed_access.front us w → access.front us w
access_front_from us w (inl f) = of_first f
access_front_from us w (inr (of_first f)) = of_first f
access_front_from us w (inr (of_rest t r)) = of_rest t (inl r)

-- a minus
unary_to : (inner : Rule Token Expr) (us : List Token) (w : ℕ) (e : Expr) → (unary inner).takes us w e → (printed_unary inner).takes us w e
unary_to inner us w e (inl (both t (inl (mapped n)))) = inl (both t n)
unary_to inner us w e (inl (both t (inr (mapped o)))) = inr (inl (both t o))
unary_to inner us w e (inr p) = inr (inr p)

unary_from : (inner : Rule Token Expr) (us : List Token) (w : ℕ) (e : Expr) → (printed_unary inner).takes us w e → (unary inner).takes us w e
unary_from inner us w e (inl (both t n)) = inl (both t (inl (mapped n)))
unary_from inner us w e (inr (inl (both t o))) = inl (both t (inr (mapped o)))
unary_from inner us w e (inr (inr p)) = inr p

unary_front_to : (inner : Rule Token Expr) (us : List Token) (w : ℕ) → (unary inner).front us w → (printed_unary inner).front us w
unary_front_to inner us w (inl (of_first f)) = inl (of_first f)
unary_front_to inner us w (inl (of_rest t (inl n))) = inl (of_rest t n)
unary_front_to inner us w (inl (of_rest t (inr o))) = inr (inl (of_rest t o))
unary_front_to inner us w (inr p) = inr (inr p)

unary_front_from : (inner : Rule Token Expr) (us : List Token) (w : ℕ) → (printed_unary inner).front us w → (unary inner).front us w
unary_front_from inner us w (inl (of_first f)) = inl (of_first f)
unary_front_from inner us w (inl (of_rest t n)) = inl (of_rest t (inl n))
unary_front_from inner us w (inr (inl (of_first f))) = inl (of_first f)
unary_front_from inner us w (inr (inl (of_rest t o))) = inl (of_rest t (inr o))
unary_front_from inner us w (inr (inr p)) = inr p

pub printed_rules_are_same : PrintedRulesAreSame
printed_rules_are_same = record {
  term = record { takes = λ us w a. (term_to us w a, term_from us w a); front = λ us w. (term_front_to us w, term_front_from us w) };
  access = record { takes = λ us w e. (access_to us w e, access_from us w e); front = λ us w. (access_front_to us w, access_front_from us w) };
  unary = record { takes = λ us w e. (unary_to expr us w e, unary_from expr us w e); front = λ us w. (unary_front_to expr us w, unary_front_from expr us w) };
}
