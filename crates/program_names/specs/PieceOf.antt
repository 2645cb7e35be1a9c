-- A piece as contracts see it.
use Rattle.program_names.specs.declared.piece.Piece as code
use Rattle.program_names.specs.declared.piece.Piece.TheVariants as form
use Rattle.program_names.specs.Pieces.{Piece, number, row, place, names, domain, operator}

abbrev pub piece_of : code.Piece → Piece
piece_of (form.Number negative n) = number negative n
piece_of (form.Row scope d) = row scope.now d.now
piece_of (form.Place x count) = place x.now count
piece_of (form.Names scope more) = names scope.now more.now
piece_of (form.Domain count) = domain count
piece_of (form.Operator op) = operator op
