-- Of an inner call: what stands for a map as written once its names are known.
use Rattle.std.specs.Prelude.{◌≡◌, ℕ, Bool, true, false, List, length, Some, None}
use Rattle.az_lin.specs.Affine.{AffineMap}
use Rattle.az_ast.specs.declared.reason.Reason.TheVariants.{Entry}
use Rattle.command_script.specs.Resolved.{meant}
use Rattle.script_grammar.specs.declared.command.MapText.{MapText}
use Rattle.mapping_commands.specs.Maps.{name_reason, entry_reason}
use Rattle.mapping_commands.specs.declared.maps.Shaped.{Shaped}

module _ (params : List (List ℕ)) (text : MapText) where
  -- the map itself, or the entry that is out of range
  abbrev pub IsMeantOr : Bool → AffineMap → Type 0
  IsMeantOr true f = (f ≡ meant params text) × (entry_reason params text ≡ None)
  IsMeantOr false f = entry_reason params text ≡ Some Entry

  -- a map of the same width with as many rows
  pub record IsMeant (found : Shaped) : Type 0 where
    pub names : name_reason params text ≡ None
    pub width : found.map.width ≡ (meant params text).width
    pub rows : length found.map.rows ≡ length (meant params text).rows
    pub entries : IsMeantOr found.fits found.map
