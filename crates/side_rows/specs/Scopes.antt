-- Names against a scope.
use Rattle.std.specs.Prelude.{ℕ, Bool, false, not, ◌||◌, List, [], ◌∷◌}
use Rattle.std.specs.Option.{option_map_or}
use Rattle.std.specs.List.{list_any}
use Rattle.std.specs.Str.{bytes_eq}
use Rattle.grammar_rules.specs.declared.term.Term.{Term}
use Rattle.side_rows.specs.Sides.{Scope}

-- a name that is in scope already, or twice among those that come into scope
abbrev pub repeats : Scope → List (List ℕ) → Bool
repeats scope [] = false
repeats scope (name ∷ more) = (list_any (bytes_eq name) scope || list_any (bytes_eq name) more) || repeats scope more

-- a term whose name is none of the scope's
abbrev pub is_unknown_in : Scope → Term → Bool
is_unknown_in scope term = option_map_or (λ name. not (list_any (bytes_eq name) scope)) term.name false
