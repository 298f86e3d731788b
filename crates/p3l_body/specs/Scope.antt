-- The variables that are declared, and the meanings of names.
use Rattle.std.specs.Prelude.{ℕ, ◌+◌, Bool, true, List, [], ◌∷◌, ◌++◌, length, Result, Ok, Err, Option, bytes_eq, is_some, nat_lt, if◌then◌else◌}
use Rattle.std.specs.Option.{option_map}
use Rattle.std.specs.Map.{lookup}
use Rattle.p3l_base.specs.Limits.{most_words}
use Rattle.p3l_ast.specs.declared.position.Spot.{Spot}
use Rattle.p3l_ast.specs.declared.refusal.Fault.{Fault}
use Rattle.p3l_ast.specs.declared.refusal.Fault.TheVariants.{TooWide}
use Rattle.p3l_ast.specs.declared.refusal.SourceRefusal.{SourceRefusal}
use Rattle.p3l_ast.specs.declared.refusal.SourceRefusal.TheVariants.{At}
use Rattle.p3l_ast.specs.declared.port.Port.{Port}
use Rattle.p3l_types.specs.Verdict.{Verdict, broken_if, given}
use Rattle.p3l_types.specs.Constants.{Constants, constant_of}
use Rattle.p3l_types.specs.Shape.{product, shape_of}
use Rattle.p3l_body.specs.declared.scope.Known.{Known}
use Rattle.p3l_body.specs.declared.var.Var.{Var}

-- the variables declared so far, with what is known of them
abbrev pub Names : Type 0
Names = List (List ℕ × Known)

-- a variable that statements may not assign to, if it is fixed
abbrev pub named : Bool → Var → List ℕ × Known
named is_fixed var = (var.name, record { sizes = length var.shape.sizes; is_fixed = is_fixed })

-- a constant
abbrev pub fixed_scalar : Known
fixed_scalar = record { sizes = 0; is_fixed = true }

-- the variable of a name, or else its constant
abbrev pub known_of : Constants → Names → List ℕ → Option Known
known_of constants names name =
    if is_some (lookup (bytes_eq name) names) then lookup (bytes_eq name) names
    else option_map (λ value. fixed_scalar) (constant_of constants name)

-- a name that is declared is no variable's yet, and no constant's
abbrev pub fresh : Fault → Constants → Names → Spot → Verdict
fresh fault constants names spot =
    broken_if (is_some (known_of constants names spot.name)) fault spot.pos

-- a variable after others of n words: its shape is lawful, and all together have no more words than
-- an item may have
abbrev pub measured : Constants → ℕ → Port → Result Var SourceRefusal
measured constants words port =
    given (shape_of constants port)
    (λ shape. if nat_lt most_words (words + product shape.sizes) then Err (At TooWide port.at.pos)
    else Ok (record { name = port.at.name; shape = shape }))

-- a declaration of a variable after others
abbrev pub declared_one : Fault → Constants → Names → ℕ → Port → Result Var SourceRefusal
declared_one fault constants names words port =
    given (measured constants words port) (λ var. given (fresh fault constants names port.at) (λ x. Ok var))

-- the variables of a list of declarations, of which n words are declared before
abbrev pub declared : Fault → Bool → Constants → Names → ℕ → List Port → Result (List Var) SourceRefusal
declared fault is_fixed constants names words [] = Ok []
declared fault is_fixed constants names words (port ∷ ports) =
    given (declared_one fault constants names words port)
    (λ var. given (declared fault is_fixed constants (names ++ named is_fixed var ∷ []) (words + product var.shape.sizes) ports)
    (λ vars. Ok (var ∷ vars)))
