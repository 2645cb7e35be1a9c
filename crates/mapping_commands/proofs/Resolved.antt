-- What the answer for a map says of its names and of its entries.
use Rattle.std.proofs.Common.{◌≡◌, ℕ, List, refl}
use Rattle.std.specs.Prelude.{Bool, true, false, if◌then◌else◌, Option, Some, None, option_map}
use Rattle.std.specs.List.{list_any}
use Rattle.std.specs.Option.{option_or}
use Rattle.az_ast.specs.declared.reason.Reason.{Reason}
use Rattle.az_ast.specs.declared.reason.Reason.TheVariants as reason
use Rattle.command_script.specs.Resolved.{scope_of, sides_of, first_unknown, first_twice, refusal_of}
use Rattle.command_script.specs.declared.resolution.ResolveFault.{ResolveFault}
use Rattle.command_script.specs.declared.resolution.ResolveFault.TheVariants.{Unknown, Twice, Entry}
use Rattle.script_grammar.specs.declared.command.MapText.{MapText}
use Rattle.side_rows.specs.Entries.{has_entry_out}
use Rattle.side_rows.specs.Sides.{alone, row_of}
use Rattle.mapping_commands.specs.Maps.{name_reason, entry_reason}

-- the three parts of an answer
abbrev refusal_by : Option (List ℕ) → Option (List ℕ) → Bool → Option ResolveFault
refusal_by unknown twice out = option_or (option_map Unknown unknown) (option_or (option_map Twice twice) (if out then Some Entry else None))

abbrev names_by : Option (List ℕ) → Option (List ℕ) → Option Reason
names_by unknown twice = option_or (option_map reason.Unknown unknown) (option_map reason.Twice twice)

abbrev entry_by : Bool → Option Reason
entry_by out = if out then Some reason.Entry else None

by_unknown : (unknown twice : Option (List ℕ)) (out : Bool) (name : List ℕ) → refusal_by unknown twice out ≡ Some (Unknown name) → names_by unknown twice ≡ Some (reason.Unknown name)
by_unknown (Some other) twice out name is = let same : other ≡ name = cc in rw same refl
by_unknown None (Some other) out name is = cc
by_unknown None None true name is = cc
by_unknown None None false name is = cc

by_twice : (unknown twice : Option (List ℕ)) (out : Bool) (name : List ℕ) → refusal_by unknown twice out ≡ Some (Twice name) → names_by unknown twice ≡ Some (reason.Twice name)
by_twice (Some other) twice out name is = cc
by_twice None (Some other) out name is = let same : other ≡ name = cc in rw same refl
by_twice None None true name is = cc
by_twice None None false name is = cc

by_entry : (unknown twice : Option (List ℕ)) (out : Bool) → refusal_by unknown twice out ≡ Some Entry → (names_by unknown twice ≡ None) × (entry_by out ≡ Some reason.Entry)
by_entry (Some other) twice out is = cc
by_entry None (Some other) out is = cc
by_entry None None true is = (refl, refl)
by_entry None None false is = cc

by_none : (unknown twice : Option (List ℕ)) (out : Bool) → refusal_by unknown twice out ≡ None → (names_by unknown twice ≡ None) × (entry_by out ≡ None)
by_none (Some other) twice out is = cc
by_none None (Some other) out is = cc
by_none None None true is = cc
by_none None None false is = (refl, refl)

module _ (params : List (List ℕ)) (text : MapText) where
  abbrev unknown : Option (List ℕ)
  unknown = first_unknown (scope_of params text) (sides_of text)

  abbrev twice : Option (List ℕ)
  twice = first_twice params text.indices

  abbrev out : Bool
  out = list_any (λ side. has_entry_out (row_of (scope_of params text) (alone side))) (sides_of text)

  pub is_unknown : (name : List ℕ) → refusal_of params text ≡ Some (Unknown name) → name_reason params text ≡ Some (reason.Unknown name)
  is_unknown name is = by_unknown unknown twice out name is

  pub is_twice : (name : List ℕ) → refusal_of params text ≡ Some (Twice name) → name_reason params text ≡ Some (reason.Twice name)
  is_twice name is = by_twice unknown twice out name is

  pub is_out : refusal_of params text ≡ Some Entry → (name_reason params text ≡ None) × (entry_reason params text ≡ Some reason.Entry)
  is_out is = by_entry unknown twice out is

  pub is_in : refusal_of params text ≡ None → (name_reason params text ≡ None) × (entry_reason params text ≡ None)
  is_in is = by_none unknown twice out is
