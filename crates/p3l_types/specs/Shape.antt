-- Shapes of ports, and the sizes that brackets leave.
use Rattle.std.specs.Prelude.{ℕ, ℤ, ◌+◌, ◌*◌, ◌==◌, ◌&&◌, ◌||◌, Bool, List, [], ◌∷◌, length, Result, Ok, Err, Option, Some, None, nat_le, nat_lt, if◌then◌else◌}
use Rattle.p3l_base.specs.Limits.{most_sizes, most_words}
use Rattle.p3l_ast.specs.declared.refusal.Fault.TheVariants.{BadSize, TooWide}
use Rattle.p3l_ast.specs.declared.refusal.SourceRefusal.{SourceRefusal}
use Rattle.p3l_ast.specs.declared.refusal.SourceRefusal.TheVariants.{At}
use Rattle.p3l_ast.specs.declared.port.Num.{Num}
use Rattle.p3l_ast.specs.declared.port.Port.{Port}
use Rattle.p3l_ast.specs.declared.call.Sub.{Sub}
use Rattle.p3l_ast.specs.declared.call.Sub.TheVariants.{Whole, Free}
use Rattle.p3l_types.specs.declared.shape.Shape.{Shape}
use Rattle.p3l_types.specs.Verdict.{given}
use Rattle.p3l_types.specs.Constants.{Constants, number_of, place_of, natural}

-- the number of words of an array of these sizes
abbrev pub product : List ℕ → ℕ
product [] = 1
product (size ∷ sizes) = size * product sizes

-- a number that a size may be
abbrev pub is_size : ℕ → Bool
is_size n = nat_le 1 n && nat_le n most_words

-- the size that comes after k others: its name must be a constant, its number a size, and k less than
-- the most sizes
abbrev pub size_of : Constants → ℕ → Num → Result ℕ SourceRefusal
size_of constants k num =
    given (number_of constants num)
    (λ value. if is_size (natural value) && nat_lt k most_sizes then Ok (natural value) else Err (At BadSize (place_of num)))

-- the sizes that come after k others
abbrev pub sizes_of : Constants → ℕ → List Num → Result (List ℕ) SourceRefusal
sizes_of constants k [] = Ok []
sizes_of constants k (num ∷ nums) =
    given (size_of constants k num) (λ size. given (sizes_of constants (k + 1) nums) (λ sizes. Ok (size ∷ sizes)))

-- the shape of a port: its sizes, with no more words than an item may have
abbrev pub shape_of : Constants → Port → Result Shape SourceRefusal
shape_of constants port =
    given (sizes_of constants 0 port.sizes)
    (λ sizes. if nat_le (product sizes) most_words then Ok (record { sizes = sizes }) else Err (At TooWide port.at.pos))

-- the sizes at the empty brackets
abbrev pub whole_sizes : List Sub → List ℕ → List ℕ
whole_sizes (Whole ∷ subs) (size ∷ sizes) = size ∷ whole_sizes subs sizes
whole_sizes (Free index ∷ subs) (size ∷ sizes) = whole_sizes subs sizes
whole_sizes subs sizes = []

-- the shape that brackets leave: the sizes at the empty ones, or all of them after a plain name; none
-- if there are brackets, but not one for each size
abbrev pub sliced : List Sub → Shape → Option Shape
sliced [] shape = Some shape
sliced (sub ∷ subs) shape =
    if length (sub ∷ subs) == length shape.sizes then Some (record { sizes = whole_sizes (sub ∷ subs) shape.sizes }) else None
