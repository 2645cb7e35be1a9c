-- Why a setting call is refused: the first reason in order.
use Rattle.std.specs.Prelude.{◌≡◌, ℕ, ◌==◌, zero, suc, nat_eq, nat_lt, Bool, false, not, ◌&&◌, ◌||◌, if◌then◌else◌, List, [], ◌∷◌, ◌++◌, length, slice_get, Option, Some, None, option_map, is_none, find}
use Rattle.std.specs.FinMap.{get}
use Rattle.std.specs.List.{list_all, list_any}
use Rattle.std.specs.Option.{option_or, option_map_or}
use Rattle.std.specs.Str.{bytes_eq}
use lib.Pointwise.{pointwise}
use Rattle.az_lin.specs.Affine.{AffineMap}
use Rattle.az_ast.specs.Shapes.{first_of, of_variable, is_input}
use Rattle.az_ast.specs.System.{System}
use Rattle.az_ast.specs.declared.program.Variable.{Variable}
use Rattle.az_ast.specs.declared.reason.Reason.{Reason as Why}
use Rattle.az_ast.specs.declared.reason.Reason.TheVariants.{Interface, Kinds, Size, Width, Factor, Twice, Unmapped}
use Rattle.target_map.specs.Kinds.{rises_from, is_sized, most_size}
use Rattle.target_map.specs.Settings.{TargetMapping, Storages, width_of}
use Rattle.target_map.specs.declared.fault.MapFault.{MapFault}
use Rattle.target_map.specs.declared.fault.MapFault.TheVariants.{Reason, Memory}
use Rattle.target_map.specs.declared.kind.Kind.{Kind}
use Rattle.target_map.specs.declared.storage.Storage.{Storage}

-- the refusal is the one that stands; want of memory may take its place
abbrev pub IsRefusal : Option Why → MapFault → Type 0
IsRefusal refusal (Reason reason) = refusal ≡ Some reason
IsRefusal refusal Memory = Unit {0}

abbrev pub name_of : System → ℕ → List ℕ
name_of p x = option_map_or (λ variable. variable.name) (slice_get p.variables x) []

abbrev pub is_unwritten : System → ℕ → Bool
is_unwritten p x = not (of_variable p.variables (λ variable. not (is_input variable.role)) x)

abbrev pub kinds_refusal : List Kind → Option Why
kinds_refusal kinds =
    first_of
    ((length kinds == 0 || not (rises_from 0 kinds), Kinds)
    ∷ (not (list_all is_sized kinds), Size) ∷ [])

abbrev pub time_refusal : System → List Kind → ℕ → AffineMap → Option Why
time_refusal p kinds x f =
    first_of
    ((is_unwritten p x, Interface (name_of p x))
    ∷ (length kinds == 0, Kinds)
    ∷ (not (f.width == width_of p x) || not (length f.rows == length kinds), Width) ∷ [])

-- the storage of another variable in the space: that of the last one before the number, as they are all alike
abbrev pub in_space : List ℕ → Option Storage → Option Storage
in_space space None = None
in_space space (Some storage) = if bytes_eq storage.space space then Some storage else None

abbrev pub other_in : Storages → List ℕ → ℕ → ℕ → Option Storage
other_in storages space x y = if y == x then None else in_space space (get storages y)

abbrev pub others_in : Storages → List ℕ → ℕ → ℕ → Option Storage
others_in storages space x zero = None
others_in storages space x (suc number) = option_or (other_in storages space x number) (others_in storages space x number)

-- another number of rows, and other factors, than the others of the space have
abbrev pub has_other_rows : Storage → Option Storage → Bool
has_other_rows storage None = false
has_other_rows storage (Some other) = not (length storage.map.rows == length other.map.rows)

abbrev pub has_other_factors : Storage → Option Storage → Bool
has_other_factors storage None = false
has_other_factors storage (Some other) = not (pointwise nat_eq storage.factors other.factors)

abbrev pub storage_refusal_beside : Option Storage → System → ℕ → Storage → Option Why
storage_refusal_beside other p x storage =
    first_of
    ((is_unwritten p x, Interface (name_of p x))
    ∷ (not (storage.map.width == width_of p x) || has_other_rows storage other, Width)
    ∷ (
      not (length storage.factors == length storage.map.rows) || list_any (λ factor. nat_lt most_size factor) storage.factors
          || has_other_factors storage other,
      Factor,
    ) ∷ [])

abbrev pub storage_refusal : System → TargetMapping → ℕ → Storage → Option Why
storage_refusal p m x storage = storage_refusal_beside (others_in m.storages storage.space x (length p.variables)) p x storage

-- the first statement that stands in the list before, and the first input
abbrev pub repeated : List ℕ → List ℕ → Option ℕ
repeated earlier [] = None
repeated earlier (x ∷ xs) = if list_any (λ y. y == x) earlier then Some x else repeated (earlier ++ x ∷ []) xs

abbrev pub order_refusal : System → List ℕ → Option Why
order_refusal p statements =
    option_or
    (option_map (λ x. Twice (name_of p x)) (repeated [] statements))
    (option_map (λ x. Interface (name_of p x)) (find (is_unwritten p) statements))

-- the first output or local that lacks a map, of those from the number on
abbrev pub lacks_map : TargetMapping → ℕ → Variable → Bool
lacks_map m x variable = not (is_input variable.role) && (is_none (get m.times x) || is_none (get m.storages x))

abbrev pub unmapped_from : TargetMapping → ℕ → List Variable → Option Why
unmapped_from m x [] = None
unmapped_from m x (variable ∷ variables) = if lacks_map m x variable then Some (Unmapped variable.name) else unmapped_from m (suc x) variables
