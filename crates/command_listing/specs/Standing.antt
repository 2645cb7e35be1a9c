-- What stands under a name.
use Rattle.std.specs.Prelude.{ℕ, List, Option, option_map}
use Rattle.az_desk.specs.Files.{Files, file_of}

-- what the desk tells of this file, where it tells its files
abbrev pub stands_under : List ℕ → Option Files → Option (Option (List ℕ))
stands_under name files = option_map (λ told. file_of told name) files
