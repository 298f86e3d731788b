-- Declared variables are new, have sizes, and are not too wide.
use Rattle.std.proofs.Common.{◌≡◌, ◌≢◌, ℕ, ℤ, ◌+◌, ◌≤◌, Bool, true, false, cond, ◌&&◌, List, [], ◌∷◌, ◌++◌, map, Option, Some, None, Result, Ok, Err, IfOk, refl, sym, ap, subst, arith}
use Rattle.std.specs.Prelude.{bytes_eq, is_some, nat_le, nat_lt, option_map, if◌then◌else◌}
use Rattle.std.specs.List.{AllByRecursion}
use Rattle.std.specs.Map.{lookup}
use Rattle.std.proofs.lemmas.Bool.Decides.{nat_tests}
use Rattle.std.proofs.lemmas.List.{map-append}
use Rattle.std.proofs.lemmas.Slice.Eq.{bytes_eq-Decides}
use Rattle.p3l_ast.specs.declared.port.Num.{Num}
use Rattle.p3l_ast.specs.declared.port.Port.{Port}
use Rattle.p3l_ast.specs.declared.refusal.Fault.{Fault}
use Rattle.p3l_ast.specs.declared.refusal.SourceRefusal.{SourceRefusal}
use Rattle.p3l_types.specs.declared.shape.Shape.{Shape}
use Rattle.p3l_types.specs.Verdict.{given, broken_if}
use Rattle.p3l_types.specs.Constants.{Constants, constant_of, number_of, natural}
use Rattle.p3l_types.specs.Shape.{product, is_size, size_of, sizes_of, shape_of}
use Rattle.p3l_body.specs.declared.scope.Known.{Known}
use Rattle.p3l_body.specs.declared.var.Var.{Var}
use Rattle.p3l_body.specs.Eval.{width}
use Rattle.p3l_body.specs.Scope.{Names, named, fixed_scalar, known_of, measured, declared_one, declared}
use Rattle.p3l_compile.specs.Condition.{total, Differ, IsArray}

-- a step from a value with a property gives a value with the next property
pub if_given : {A B : Type 0} (r : Result A SourceRefusal) (go : A → Result B SourceRefusal) (P : A → Type 0) (Q : B → Type 0) →
    IfOk r P → ((a : A) → P a → IfOk (go a) Q) → IfOk (given r go) Q
if_given (Ok a) go P Q h k = k a h
if_given (Err e) go P Q h k = tt

pub ok_if : {A : Type 0} (b : Bool) (x : A) (e : SourceRefusal) (P : A → Type 0) → (b ≡ true → P x) → IfOk (if b then Ok x else Err e) P
ok_if true x e P h = h refl
ok_if false x e P h = tt

ok_if_not : {A : Type 0} (b : Bool) (x : A) (e : SourceRefusal) (P : A → Type 0) → (b ≡ false → P x) → IfOk (if b then Err e else Ok x) P
ok_if_not true x e P h = tt
ok_if_not false x e P h = h refl

-- sizes are 1 or more
abbrev AreSome : List ℕ → Type 0
AreSome sizes = AllByRecursion (λ n. 1 ≤ n) sizes

size_some : (constants : Constants) (k : ℕ) (num : Num) → IfOk (size_of constants k num) (λ n. 1 ≤ n)
size_some constants k num =
    if_given (number_of constants num) _ (λ value. Unit {0}) (λ n. 1 ≤ n) (any (number_of constants num))
    (λ value x. ok_if (is_size (natural value) && nat_lt k 3) (natural value) _ (λ n. 1 ≤ n) (λ e. some (natural value) (nat_lt k 3) e))
  where
    any : (r : Result ℤ SourceRefusal) → IfOk r (λ value. Unit {0})
    any (Ok value) = tt
    any (Err e) = tt

    some : (n : ℕ) (b : Bool) → is_size n && b ≡ true → 1 ≤ n
    some n b e = grind (arith, nat_tests)

sizes_some : (constants : Constants) (k : ℕ) (nums : List Num) → IfOk (sizes_of constants k nums) AreSome
sizes_some constants k [] = tt
sizes_some constants k (num ∷ nums) =
    if_given (size_of constants k num) _ (λ n. 1 ≤ n) AreSome (size_some constants k num)
    (λ size one. if_given (sizes_of constants (k + 1) nums) _ AreSome AreSome (sizes_some constants (k + 1) nums) (λ sizes more. (one, more)))

shape_some : (constants : Constants) (port : Port) → IfOk (shape_of constants port) (λ shape. AreSome shape.sizes)
shape_some constants port =
    if_given (sizes_of constants 0 port.sizes) _ AreSome (λ (shape : Shape). AreSome shape.sizes) (sizes_some constants 0 port.sizes)
    (λ sizes some. ok_if (nat_le (product sizes) 65536) (record { sizes = sizes }) _ (λ (shape : Shape). AreSome shape.sizes) (λ e. some))

-- a variable after others of `words` words
record IsMeasured (words : ℕ) (port : Port) (var : Var) : Type 0 where
  called : var.name ≡ port.at.name
  some : AreSome var.shape.sizes
  few : words + width var ≤ 65536

measured_so : (constants : Constants) (words : ℕ) (port : Port) → IfOk (measured constants words port) (IsMeasured words port)
measured_so constants words port =
    if_given (shape_of constants port) _ (λ (shape : Shape). AreSome shape.sizes) (IsMeasured words port) (shape_some constants port)
    (λ shape some. ok_if_not (nat_lt 65536 (words + product shape.sizes)) (record { name = port.at.name; shape = shape }) _ (IsMeasured words port)
    (λ e. record { called = refl; some = some; few = low (words + product shape.sizes) e }))
  where
    low : (n : ℕ) → nat_lt 65536 n ≡ false → n ≤ 65536
    low n e = grind (arith, nat_tests)

-- a name that is looked up and not found is not there
absent : {A : Type 0} (name : List ℕ) (entries : List (List ℕ × A)) → lookup (bytes_eq name) entries ≡ None → AllByRecursion (λ (p : List ℕ × A). p.0 ≢ name) entries
absent name [] e = tt
absent name (p ∷ ps) e = by (absent name ps) (bytes_eq name p.0) refl e
  where
    by : (lookup (bytes_eq name) ps ≡ None → AllByRecursion (λ (q : List ℕ × _). q.0 ≢ name) ps) → (b : Bool) → bytes_eq name p.0 ≡ b →
        cond b (Some p.1) (lookup (bytes_eq name) ps) ≡ None → (p.0 ≢ name) × AllByRecursion (λ (q : List ℕ × _). q.0 ≢ name) ps
    by go true t none = absurd cc
    by go false t none = (λ same. let k : bytes_eq name p.0 ≡ true = (bytes_eq-Decides name p.0).1 (sym same) in absurd cc, go none)

-- a name is that of no variable so far, and of no constant
pub record IsNew (constants : Constants) (before : List (List ℕ)) (name : List ℕ) : Type 0 where
  pub variable : AllByRecursion (λ other. other ≢ name) before
  pub constant : AllByRecursion (λ (c : List ℕ × ℤ). c.0 ≢ name) constants

unfoldable pub keys : Names → List (List ℕ)
keys names = map (λ (p : List ℕ × Known). p.0) names

keys_apart : (name : List ℕ) (names : Names) → AllByRecursion (λ (p : List ℕ × Known). p.0 ≢ name) names → AllByRecursion (λ other. other ≢ name) (keys names)
unfolding keys
keys_apart name [] h = tt
keys_apart name (p ∷ names) h = (h.0, keys_apart name names h.1)

new_name : (constants : Constants) (names : Names) (name : List ℕ) → is_some (known_of constants names name) ≡ false → IsNew constants (keys names) name
new_name constants names name e = by (lookup (bytes_eq name) names) refl (constant_of constants name) refl e
  where
    by : (o : Option Known) → lookup (bytes_eq name) names ≡ o → (c : Option ℤ) → constant_of constants name ≡ c →
        is_some (if is_some o then o else option_map (λ value. fixed_scalar) c) ≡ false → IsNew constants (keys names) name
    by (Some known) found c other h = absurd cc
    by None found (Some value) other h = absurd cc
    by None found None other h = record { variable = keys_apart name names (absent name names found); constant = absent name constants other }

-- a declared variable is new, has sizes, and there is room for it
pub record IsDeclared (constants : Constants) (before : List (List ℕ)) (words : ℕ) (var : Var) : Type 0 where
  pub new : IsNew constants before var.name
  pub some : AllByRecursion (λ n. 1 ≤ n) var.shape.sizes
  pub few : words + width var ≤ 65536

one_declared : (fault : Fault) (constants : Constants) (names : Names) (words : ℕ) (port : Port) → IfOk (declared_one fault constants names words port) (IsDeclared constants (keys names) words)
one_declared fault constants names words port =
    if_given (measured constants words port) _ (IsMeasured words port) (IsDeclared constants (keys names) words) (measured_so constants words port)
    (λ var m. by var m (is_some (known_of constants names port.at.name)) refl)
  where
    by : (var : Var) → IsMeasured words port var → (b : Bool) → is_some (known_of constants names port.at.name) ≡ b →
        IfOk (given (broken_if b fault port.at.pos) (λ x. Ok var)) (IsDeclared constants (keys names) words)
    by var m true e = tt
    by var m false e = record {
      new = subst (IsNew constants (keys names)) (sym m.called) (new_name constants names port.at.name e);
      some = m.some;
      few = m.few;
    }

-- variables that are declared after others, in their order
abbrev pub Declares : Constants → List (List ℕ) → ℕ → List Var → Type 0
Declares constants before words [] = words ≤ 65536
Declares constants before words (var ∷ vars) =
    IsDeclared constants before words var × Declares constants (before ++ var.name ∷ []) (words + width var) vars

pub all_declared : (fault : Fault) (is_fixed : Bool) (constants : Constants) (names : Names) (words : ℕ) (ports : List Port) → words ≤ 65536 →
    IfOk (declared fault is_fixed constants names words ports) (Declares constants (keys names) words)
unfolding keys
all_declared fault is_fixed constants names words [] low = low
all_declared fault is_fixed constants names words (port ∷ ports) low =
    if_given (declared_one fault constants names words port) _ (IsDeclared constants (keys names) words) (Declares constants (keys names) words) (one_declared fault constants names words port)
    (λ var one. let more = names ++ named is_fixed var ∷ [] in
    let after : keys more ≡ keys names ++ var.name ∷ [] = map-append (λ (p : List ℕ × Known). p.0) names (named is_fixed var ∷ []) in
    if_given (declared fault is_fixed constants more (words + width var) ports) _ (Declares constants (keys more) (words + width var)) (Declares constants (keys names) words)
    (all_declared fault is_fixed constants more (words + width var) ports one.few)
    (λ vars rest. (one, subst (λ before. Declares constants before (words + width var) vars) after rest)))

-- the words of variables that are declared
pub declared_few : (constants : Constants) (before : List (List ℕ)) (words : ℕ) (vars : List Var) → Declares constants before words vars → words + total vars ≤ 65536
declared_few constants before words [] h = omega (arith, h)
declared_few constants before words (var ∷ vars) h =
    omega (arith, declared_few constants (before ++ var.name ∷ []) (words + width var) vars h.1)

pub declared_arrays : (constants : Constants) (before : List (List ℕ)) (words : ℕ) (vars : List Var) → Declares constants before words vars → AllByRecursion IsArray vars
declared_arrays constants before words [] h = tt
declared_arrays constants before words (var ∷ vars) h =
    (record { some = h.0.some; few = omega (arith, h.0.few) }, declared_arrays constants (before ++ var.name ∷ []) (words + width var) vars h.1)

-- the names of variables
unfoldable pub names_in : List Var → List (List ℕ)
names_in vars = map (λ (v : Var). v.name) vars

pub keys_named : (is_fixed : Bool) (vars : List Var) → keys (map (named is_fixed) vars) ≡ names_in vars
unfolding keys names_in
keys_named is_fixed [] = refl
keys_named is_fixed (var ∷ vars) = ap (λ l. var.name ∷ l) (keys_named is_fixed vars)

pub keys_append : (front back : Names) → keys (front ++ back) ≡ keys front ++ keys back
unfolding keys
keys_append front back = map-append (λ (p : List ℕ × Known). p.0) front back

pub names_append : (front back : List Var) → names_in (front ++ back) ≡ names_in front ++ names_in back
unfolding names_in
names_append front back = map-append (λ (v : Var). v.name) front back

-- no variable has one of these names
abbrev Apart : List (List ℕ) → List Var → Type 0
Apart before vars = AllByRecursion (λ (v : Var). AllByRecursion (λ other. other ≢ v.name) before) vars

front_apart : (front back : List (List ℕ)) (name : List ℕ) → AllByRecursion (λ other. other ≢ name) (front ++ back) → AllByRecursion (λ other. other ≢ name) front
front_apart [] back name h = tt
front_apart (x ∷ front) back name h = (h.0, front_apart front back name h.1)

last_apart : (front : List (List ℕ)) (x name : List ℕ) → AllByRecursion (λ other. other ≢ name) (front ++ x ∷ []) → x ≢ name
last_apart [] x name h = h.0
last_apart (y ∷ front) x name h = last_apart front x name h.1

fronts_apart : (front back : List (List ℕ)) (vars : List Var) → Apart (front ++ back) vars → Apart front vars
fronts_apart front back [] h = tt
fronts_apart front back (v ∷ vars) h = (front_apart front back v.name h.0, fronts_apart front back vars h.1)

others_differ : (front : List (List ℕ)) (x : List ℕ) (vars : List Var) → Apart (front ++ x ∷ []) vars → AllByRecursion (λ (v : Var). v.name ≢ x) vars
others_differ front x [] h = tt
others_differ front x (v ∷ vars) h = (λ same. last_apart front x v.name h.0 (sym same), others_differ front x vars h.1)

pub declared_apart : (constants : Constants) (before : List (List ℕ)) (words : ℕ) (vars : List Var) → Declares constants before words vars → Apart before vars
declared_apart constants before words [] h = tt
declared_apart constants before words (v ∷ vars) h =
    (h.0.new.variable, fronts_apart before (v.name ∷ []) vars (declared_apart constants (before ++ v.name ∷ []) (words + width v) vars h.1))

pub declared_differ : (constants : Constants) (before : List (List ℕ)) (words : ℕ) (vars : List Var) → Declares constants before words vars → Differ vars constants
declared_differ constants before words [] h = tt
declared_differ constants before words (v ∷ vars) h =
    let others = declared_apart constants (before ++ v.name ∷ []) (words + width v) vars h.1 in
    (others_differ before v.name vars others, h.0.new.constant, declared_differ constants (before ++ v.name ∷ []) (words + width v) vars h.1)

-- lists of variables that differ, of which the later have none of the names of the earlier
pub all_append : (P : Var → Type 0) (front back : List Var) → AllByRecursion P front → AllByRecursion P back → AllByRecursion P (front ++ back)
all_append P [] back f b = b
all_append P (v ∷ front) back f b = (f.0, all_append P front back f.1 b)

first_apart : (x : List ℕ) (others : List (List ℕ)) (vars : List Var) → Apart (x ∷ others) vars → AllByRecursion (λ (v : Var). v.name ≢ x) vars
first_apart x others [] h = tt
first_apart x others (v ∷ vars) h = (λ same. h.0.0 (sym same), first_apart x others vars h.1)

rest_apart : (x : List ℕ) (others : List (List ℕ)) (vars : List Var) → Apart (x ∷ others) vars → Apart others vars
rest_apart x others [] h = tt
rest_apart x others (v ∷ vars) h = (h.0.1, rest_apart x others vars h.1)

pub differ_append : (constants : Constants) (front back : List Var) → Differ front constants → Differ back constants → Apart (names_in front) back → Differ (front ++ back) constants
unfolding names_in
differ_append constants [] back f b apart = b
differ_append constants (v ∷ front) back f b apart = (
  all_append (λ (other : Var). other.name ≢ v.name) front back f.0 (first_apart v.name (names_in front) back apart),
  f.1,
  differ_append constants front back f.2 b (rest_apart v.name (names_in front) back apart),
)
