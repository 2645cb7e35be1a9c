-- What is in force at a place, made over so many columns.
use Rattle.std.specs.Prelude.{◌≡◌, map}
use Rattle.domain_check.specs.Context.{over}
use Rattle.life_sets.specs.declared.around.Around.{Around}

abbrev pub AreAround : Around → Type 0
AreAround around = around.domains.items ≡ map (over around.width) around.scope.now.domains
