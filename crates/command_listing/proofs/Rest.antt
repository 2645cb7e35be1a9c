-- The commands that are left.
use Rattle.std.proofs.Common.{◌≡◌, ℕ, suc, ◌+◌, ◌<◌, List, [], ◌∷◌, length, get_or, drop, inl, inr, refl, sym, ap, subst, ◌∙◌, add-one, drop-cons, arith}
use Rattle.std.specs.Prelude.{None, Ok, Err}
use Rattle.std.specs.Result.{IsErrAnd}
use Rattle.az_desk.specs.Desk.{Seen}
use Rattle.session_state.specs.Endings.{Ending}
use Rattle.session_state.specs.Session.{Session}
use Rattle.session_state.specs.declared.stop.Stop.{Stop}
use Rattle.command_listing.specs.Commands.{Commands}
use Rattle.command_listing.specs.Listing.{told_of, StopsAt, Runs}
use Rattle.command_listing.specs.Turns.{EndsTurn}

nothing_left : {A : Type 0} (xs : List A) → length xs ≡ 0 → xs ≡ []
nothing_left [] h = refl
nothing_left (x ∷ xs) h = absurd (omega arith)

-- a stop that is handed on
pub handed_on : (ending : Ending) (stop : Stop) → IsErrAnd ending (λ e. e ≡ stop) → ending ≡ Err stop
handed_on (Ok _) stop h = absurd h
handed_on (Err fault) stop h = ap Err h

module _ {C : Type 0} (commands : Commands C) (all : List C) (start : Seen) where
  -- how the rest ends is how all end
  abbrev pub RunsRest : ℕ → Session → Seen → Type 0
  RunsRest i session seen = (ending : Ending) (new : Seen) → Runs commands (i + 1) (drop i all) session seen ending new → Runs commands 1 all None start ending new

  module _ (i : ℕ) (session : Session) (seen : Seen) (so_far : RunsRest i session seen) where
    module _ (command : C) (within : i < length all) (here : command ≡ get_or all i command) where
      left : drop i all ≡ command ∷ drop (i + 1) all
      left = drop-cons all i command within ∙ (ap (λ b. b ∷ drop (suc i) all) (sym here) ∙ ap (λ k. command ∷ drop k all) (sym (add-one i)))

      pub one_more : (after : Session) (new : Seen) → EndsTurn commands (i + 1) command session seen after (Ok tt) new → RunsRest (i + 1) after new
      one_more after new (done, taken, leaves, said) = λ ending last h.
          let at_session : Runs commands (i + 1 + 1) (drop (i + 1) all) done.session new ending last = subst (λ (s : Session). Runs commands (i + 1 + 1) (drop (i + 1) all) s new ending last) leaves h in
          let at_seen : Runs commands (i + 1 + 1) (drop (i + 1) all) done.session (told_of commands (i + 1) command session done seen) ending last =
          subst (λ (s : Seen). Runs commands (i + 1 + 1) (drop (i + 1) all) done.session s ending last) said at_session in
          so_far ending last (subst (λ (cs : List C). Runs commands (i + 1) cs session seen ending last) (sym left) (inr (done, taken, at_seen)))

      pub stops_here : (stop : Stop) (new : Seen) → StopsAt commands (i + 1) command session seen stop new → Runs commands 1 all None start (Err stop) new
      stops_here stop new h = so_far (Err stop) new (subst (λ (cs : List C). Runs commands (i + 1) cs session seen (Err stop) new) (sym left) (inl (stop, refl, h)))

    pub all_ran : length (drop i all) ≡ 0 → Runs commands 1 all None start (Ok tt) seen
    all_ran none = so_far (Ok tt) seen (subst (λ (cs : List C). Runs commands (i + 1) cs session seen (Ok tt) seen) (sym (nothing_left (drop i all) none)) (refl, refl))
