-- Numbers and shapes have no positions.
use Rattle.std.proofs.Common.{◌≡◌, ℕ, ◌+◌, ◌&&◌, List, [], ◌∷◌, map, length, refl, ap, nat_le, nat_lt}
use Rattle.p3l_ast.specs.declared.refusal.Fault.TheVariants.{BadSize, TooWide, UnknownName}
use Rattle.p3l_ast.specs.declared.port.Num.{Num}
use Rattle.p3l_ast.specs.declared.port.Num.TheVariants.{Digits, Named}
use Rattle.p3l_ast.specs.declared.port.Port.{Port}
use Rattle.p3l_ast.specs.declared.call.Sub.{Sub}
use Rattle.p3l_ast.specs.declared.call.Sub.TheVariants.{Whole, Free}
use Rattle.p3l_ast.specs.Unplaced.{nowhere, num_unplaced, port_unplaced, sub_unplaced}
use Rattle.p3l_types.specs.declared.shape.Shape.{Shape}
use Rattle.p3l_types.specs.Constants.{Constants, constant_of, number_of, place_of, natural}
use Rattle.p3l_types.specs.Shape.{product, is_size, size_of, sizes_of, shape_of, whole_sizes, sliced}
use Rattle.p3l_position_laws.specs.Forgetting.{forget}
use Rattle.p3l_position_laws.proofs.Forgetting.{passes, found_passes, if_passes}

pub number_passes : (constants : Constants) (num : Num) → number_of constants (num_unplaced num) ≡ forget (number_of constants num)
number_passes constants (Digits value p) = refl
number_passes constants (Named x) = found_passes (constant_of constants x.name) UnknownName x.pos

pub is_nowhere : (num : Num) → place_of (num_unplaced num) ≡ nowhere
is_nowhere (Digits value p) = refl
is_nowhere (Named x) = refl

size_passes : (constants : Constants) (k : ℕ) (num : Num) → size_of constants k (num_unplaced num) ≡ forget (size_of constants k num)
size_passes constants k num =
    passes _ _ _ _ (number_passes constants num)
    (λ value. if_passes (is_size (natural value) && nat_lt k 3) (natural value) BadSize (place_of num) (place_of (num_unplaced num)) (is_nowhere num))

sizes_pass : (constants : Constants) (k : ℕ) (nums : List Num) → sizes_of constants k (map num_unplaced nums) ≡ forget (sizes_of constants k nums)
sizes_pass constants k [] = refl
sizes_pass constants k (num ∷ nums) =
    passes _ _ _ _ (size_passes constants k num) (λ size. passes _ _ _ _ (sizes_pass constants (k + 1) nums) (λ sizes. refl))

pub shape_passes : (constants : Constants) (port : Port) → shape_of constants (port_unplaced port) ≡ forget (shape_of constants port)
shape_passes constants port =
    passes _ _ _ _ (sizes_pass constants 0 port.sizes)
    (λ sizes. if_passes (nat_le (product sizes) 65536) (record { sizes = sizes }) TooWide port.at.pos nowhere refl)

pub map_length : {A B : Type 0} (f : A → B) (xs : List A) → length (map f xs) ≡ length xs
map_length f [] = refl
map_length f (x ∷ xs) = let p = map_length f xs in cc

whole_same : (subs : List Sub) (sizes : List ℕ) → whole_sizes (map sub_unplaced subs) sizes ≡ whole_sizes subs sizes
whole_same [] sizes = refl
whole_same (Whole ∷ subs) [] = refl
whole_same (Free x ∷ subs) [] = refl
whole_same (Whole ∷ subs) (size ∷ sizes) = ap (λ t. size ∷ t) (whole_same subs sizes)
whole_same (Free x ∷ subs) (size ∷ sizes) = whole_same subs sizes

pub sliced_same : (subs : List Sub) (shape : Shape) → sliced (map sub_unplaced subs) shape ≡ sliced subs shape
sliced_same [] shape = refl
sliced_same (sub ∷ subs) shape = let p = whole_same (sub ∷ subs) shape.sizes in let q = map_length sub_unplaced (sub ∷ subs) in cc
