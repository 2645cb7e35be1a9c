-- A map as it is written: why it is refused, by the reasons that are looked for before and behind those of its size.
use Rattle.std.proofs.Common.{◌≡◌, ℕ, ◌+◌, List, length, Bool, true, false, cond, Option, Some, None, Result, Err, refl, sym, ap, ◌∙◌, length-append}
use Rattle.std.specs.Prelude.{option_map}
use Rattle.std.specs.List.{list_any}
use Rattle.std.specs.Option.{option_or}
use Rattle.std.proofs.lemmas.List.{length-map}
use Rattle.az_ast.specs.System.{System}
use Rattle.az_ast.specs.declared.reason.Reason.{Reason as Why}
use Rattle.az_ast.specs.declared.reason.Reason.TheVariants.{Unknown, Twice, Entry}
use Rattle.az_lin.specs.Affine.{AffineMap}
use Rattle.change_basis.specs.Basis.{BasisFits, size_refusal, basis_refusal, rebased, Rebases}
use Rattle.command_script.specs.Resolved.{scope_of, sides_of, side_of, meant, first_unknown, first_twice, refusal_of}
use Rattle.command_script.specs.declared.resolution.ResolveFault.{ResolveFault}
use Rattle.command_script.specs.declared.resolution.ResolveFault.TheVariants as map
use Rattle.rewriting.specs.Answers.{Unless}
use Rattle.rewriting.specs.declared.fault.ChangeFault.{ChangeFault}
use Rattle.script_grammar.specs.declared.command.MapText.{MapText}
use Rattle.session_state.specs.Steps.{Step, ◌>>=◌, TakesAlone}
use Rattle.session_state.specs.declared.refusal.Refusal.TheVariants.{Command}
use Rattle.session_state.specs.declared.stop.Stop.{Stop}
use Rattle.session_state.specs.declared.stop.Stop.TheVariants.{Refused}
use Rattle.side_rows.specs.Entries.{has_entry_out}
use Rattle.side_rows.specs.Sides.{alone, row_of}
use Rattle.rewrite_commands.specs.Changes.{unless_reason, names_reason, entry_reason, inverse_of, accepted, basis_at}
use Rattle.rewrite_commands.specs.Inner.{change_refusal}
use Rattle.rewrite_commands.proofs.HandedOn.{IsHandedOn, unless_stops, unless_passes, reason_takes}
use Rattle.rewrite_commands.proofs.Taken.{inverse_takes}

-- of a name that is unknown, one that stands twice, and whether a row is out of range
abbrev all_of : Option (List ℕ) → Option (List ℕ) → Bool → Option ResolveFault
all_of unknown twice out = option_or (option_map map.Unknown unknown) (option_or (option_map map.Twice twice) (cond out (Some map.Entry) None))

abbrev names_of : Option (List ℕ) → Option (List ℕ) → Option Why
names_of unknown twice = option_or (option_map Unknown unknown) (option_map Twice twice)

abbrev entry_of : Bool → Option Why
entry_of out = option_map (λ fault. Entry) (cond out (Some map.Entry) None)

none_of : (u t : Option (List ℕ)) (out : Bool) → all_of u t out ≡ None → (names_of u t ≡ None) × (entry_of out ≡ None)
none_of (Some name) t out h = cc
none_of None (Some name) out h = cc
none_of None None true h = cc
none_of None None false h = (refl, refl)

unknown_of : (u t : Option (List ℕ)) (out : Bool) (name : List ℕ) → all_of u t out ≡ Some (map.Unknown name) → names_of u t ≡ Some (Unknown name)
unknown_of (Some found) t out name h = let e : found ≡ name = cc in ap (λ (n : List ℕ). Some (Unknown n)) e
unknown_of None (Some found) out name h = cc
unknown_of None None true name h = cc
unknown_of None None false name h = cc

twice_of : (u t : Option (List ℕ)) (out : Bool) (name : List ℕ) → all_of u t out ≡ Some (map.Twice name) → names_of u t ≡ Some (Twice name)
twice_of (Some found) t out name h = cc
twice_of None (Some found) out name h = let e : found ≡ name = cc in ap (λ (n : List ℕ). Some (Twice n)) e
twice_of None None true name h = cc
twice_of None None false name h = cc

entry_only : (u t : Option (List ℕ)) (out : Bool) → all_of u t out ≡ Some map.Entry → (names_of u t ≡ None) × (entry_of out ≡ Some Entry)
entry_only (Some name) t out h = cc
entry_only None (Some name) out h = cc
entry_only None None true h = (refl, refl)
entry_only None None false h = cc

module _ (p : System) (text : MapText) (x : ℕ) where
  abbrev basis : AffineMap
  basis = meant p.params text

  abbrev unknown : Option (List ℕ)
  unknown = first_unknown (scope_of p.params text) (sides_of text)

  abbrev twice : Option (List ℕ)
  twice = first_twice p.params text.indices

  abbrev out : Bool
  out = list_any (λ side. has_entry_out (row_of (scope_of p.params text) (alone side))) (sides_of text)

  -- the tests, each behind the ones before it
  abbrev turned : Unit {0} → Step System
  turned _ = inverse_of (length p.params) basis >>= (λ inverse. accepted (BasisFits p x basis inverse) (rebased p x basis inverse))

  abbrev entered : Unit {0} → Step System
  entered _ = unless_reason (entry_reason p.params text) >>= turned

  abbrev sized : Unit {0} → Step System
  sized _ = unless_reason (basis_refusal p x basis) >>= entered

  reasoned : (reason : Option Why) (why : Why) (rest : Unit {0} → Step System) → reason ≡ Some why → (unless_reason reason >>= rest) (Err (Refused (Command why)))
  reasoned reason why rest is = unless_stops (option_map Command reason) rest (Command why) (ap (option_map Command) is)

  passed : (reason : Option Why) (rest : Unit {0} → Step System) (s : Result System Stop) → reason ≡ None → TakesAlone (rest tt) s → TakesAlone (unless_reason reason >>= rest) s
  passed reason rest s is h = unless_passes (option_map Command reason) rest s (ap (option_map Command) is) h

  pub unknown_stops : (name : List ℕ) → refusal_of p.params text ≡ Some (map.Unknown name) → basis_at text p x (Err (Refused (Command (Unknown name))))
  unknown_stops name is = reasoned (names_reason p.params text) (Unknown name) sized (unknown_of unknown twice out name is)

  pub twice_stops : (name : List ℕ) → refusal_of p.params text ≡ Some (map.Twice name) → basis_at text p x (Err (Refused (Command (Twice name))))
  twice_stops name is = reasoned (names_reason p.params text) (Twice name) sized (twice_of unknown twice out name is)

  -- by its size
  size : (width rows : ℕ) → width ≡ length p.params + length text.indices → rows ≡ length text.rows → basis_refusal p x basis ≡ size_refusal p x width rows
  size width rows is_width is_rows =
      ap (λ n. size_refusal p x n (length basis.rows)) (length-append p.params text.indices ∙ sym is_width)
      ∙ ap (λ n. size_refusal p x width n) (length-map (sides_of text) (λ side. row_of (scope_of p.params text) (alone side)) ∙ (length-map text.rows side_of ∙ sym is_rows))

  module _ (width rows : ℕ) (is_width : width ≡ length p.params + length text.indices) (is_rows : rows ≡ length text.rows) (is : refusal_of p.params text ≡ Some map.Entry) where
    pub size_stops : (why : Why) → size_refusal p x width rows ≡ Some why → TakesAlone (basis_at text p x) (Err (Refused (Command why)))
    size_stops why found =
        passed (names_reason p.params text) sized (Err (Refused (Command why))) (entry_only unknown twice out is).0
        (reasoned (basis_refusal p x basis) why entered (size width rows is_width is_rows ∙ found))

    pub entry_stops : size_refusal p x width rows ≡ None → TakesAlone (basis_at text p x) (Err (Refused (Command Entry)))
    entry_stops found =
        passed (names_reason p.params text) sized (Err (Refused (Command Entry))) (entry_only unknown twice out is).0
        (passed (basis_refusal p x basis) entered (Err (Refused (Command Entry))) (size width rows is_width is_rows ∙ found)
        (reasoned (entry_reason p.params text) Entry turned (entry_only unknown twice out is).1))

  -- a map that is meant
  pub meant_takes : (r : Result System ChangeFault) (s : Result System Stop) → IsHandedOn (change_refusal p) r s → refusal_of p.params text ≡ None
      → Unless (basis_refusal p x basis) (Rebases p x basis) r → TakesAlone (basis_at text p x) s
  meant_takes r s on is h =
      passed (names_reason p.params text) sized s (none_of unknown twice out is).0
      (reason_takes (change_refusal p) (λ why. refl) refl (basis_refusal p x basis) (Rebases p x basis) entered r s on h
      (λ g. passed (entry_reason p.params text) turned s (none_of unknown twice out is).1 (inverse_takes p x basis r s on g)))
