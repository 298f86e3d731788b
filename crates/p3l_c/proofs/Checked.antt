-- A checked body can be written as C.
use Rattle.std.proofs.Common.{◌≡◌, ℕ, ◌+◌, ◌^◌, ◌<◌, ◌≤◌, Bool, true, false, ◌&&◌, List, [], ◌∷◌, ◌++◌, map, Option, Some, None, Result, Ok, Err, IfOk, refl, ap, ◌∙◌, subst, arith}
use Rattle.std.specs.Prelude.{nat_le, nat_lt, if◌then◌else◌}
use Rattle.std.specs.List.{AllByRecursion}
use Rattle.std.proofs.lemmas.Bool.Decides.{nat_tests}
use Rattle.std.proofs.lemmas.List.{map-append}
use Rattle.p3l_ast.specs.declared.position.Pos.{Pos}
use Rattle.p3l_ast.specs.declared.port.Num.{Num}
use Rattle.p3l_ast.specs.declared.port.Port.{Port}
use Rattle.p3l_ast.specs.declared.refusal.Fault.{Fault}
use Rattle.p3l_ast.specs.declared.refusal.Fault.TheVariants.{Twice, DeclaredTwice}
use Rattle.p3l_ast.specs.declared.refusal.SourceRefusal.{SourceRefusal}
use Rattle.p3l_ast.specs.Tree.{Statements, InsideTree, body, calls, turning, ModuleTree}
use Rattle.p3l_types.specs.declared.shape.Shape.{Shape}
use Rattle.p3l_types.specs.Verdict.{Verdict, kept, given}
use Rattle.p3l_types.specs.Constants.{Constants, number_of, natural}
use Rattle.p3l_types.specs.Shape.{product, is_size, size_of, sizes_of, shape_of}
use Rattle.p3l_body.specs.declared.var.Var.{Var}
use Rattle.p3l_body.specs.declared.ports.Ports.{Ports}
use Rattle.p3l_body.specs.Scope.{Names, named, measured, fresh, declared_one, declared}
use Rattle.p3l_body.specs.Mention.{code_mentions, mentions_rule}
use Rattle.p3l_body.specs.Seq.{SeqTree, ports_of, port_names, budget_of, rescue_of, checked_locals, checked_body, checked_seq}
use Rattle.p3l_c.specs.Condition.{FitsLines, vars_shapes, scalar, ConstantsFit, HasSmallSizes, IsWritable}
use Rattle.p3l_c.specs.Checked.{InsideFits, CheckedWrites}
use Rattle.p3l_c.proofs.Fitting.{are_named, named_append, fits}

-- a value that keeps something, and its continuation
if_given : {A B : Type 0} (r : Result A SourceRefusal) (go : A → Result B SourceRefusal) (P : A → Type 0) (Q : B → Type 0) →
    IfOk r P → ((a : A) → P a → IfOk (go a) Q) → IfOk (given r go) Q
if_given (Ok a) go P Q h k = k a h
if_given (Err e) go P Q h k = tt

ok_if : {A : Type 0} (b : Bool) (x : A) (e : SourceRefusal) (P : A → Type 0) → (b ≡ true → P x) → IfOk (if b then Ok x else Err e) P
ok_if true x e P h = h refl
ok_if false x e P h = tt

ok_if_not : {A : Type 0} (b : Bool) (x : A) (e : SourceRefusal) (P : A → Type 0) → P x → IfOk (if b then Err e else Ok x) P
ok_if_not true x e P h = tt
ok_if_not false x e P h = h

abbrev Anything : {A : Type 0} → A → Type 0
Anything x = Unit {0}

any : {A : Type 0} (r : Result A SourceRefusal) → IfOk r Anything
any (Ok x) = tt
any (Err e) = tt

-- sizes of declared variables are small
abbrev AreSmall : List ℕ → Type 0
AreSmall sizes = AllByRecursion (λ n. n < 2 ^ 63) sizes

size_small : (constants : Constants) (k : ℕ) (num : Num) → IfOk (size_of constants k num) (λ n. n < 2 ^ 63)
size_small constants k num =
    if_given (number_of constants num) _ Anything (λ n. n < 2 ^ 63) (any (number_of constants num))
    (λ value x. ok_if (is_size (natural value) && nat_lt k 3) (natural value) _ (λ n. n < 2 ^ 63) (λ e. low (natural value) (nat_lt k 3) e))
  where
    low : (n : ℕ) (b : Bool) → is_size n && b ≡ true → n < 2 ^ 63
    low n b e = let q : n ≤ 65536 = grind (arith, nat_tests) in omega arith

sizes_small : (constants : Constants) (k : ℕ) (nums : List Num) → IfOk (sizes_of constants k nums) AreSmall
sizes_small constants k [] = tt
sizes_small constants k (num ∷ nums) =
    if_given (size_of constants k num) _ (λ n. n < 2 ^ 63) AreSmall (size_small constants k num)
    (λ size one. if_given (sizes_of constants (k + 1) nums) _ AreSmall AreSmall (sizes_small constants (k + 1) nums) (λ sizes more. (one, more)))

shape_small : (constants : Constants) (port : Port) → IfOk (shape_of constants port) (λ shape. AreSmall shape.sizes)
shape_small constants port =
    if_given (sizes_of constants 0 port.sizes) _ AreSmall (λ (shape : Shape). AreSmall shape.sizes) (sizes_small constants 0 port.sizes)
    (λ sizes small. ok_if (nat_le (product sizes) 65536) (record { sizes = sizes }) _ (λ (shape : Shape). AreSmall shape.sizes) (λ e. small))

measured_small : (constants : Constants) (words : ℕ) (port : Port) → IfOk (measured constants words port) HasSmallSizes
measured_small constants words port =
    if_given (shape_of constants port) _ (λ (shape : Shape). AreSmall shape.sizes) HasSmallSizes (shape_small constants port)
    (λ shape small. ok_if_not (nat_lt 65536 (words + product shape.sizes)) (record { name = port.at.name; shape = shape }) _ HasSmallSizes small)

one_small : (fault : Fault) (constants : Constants) (names : Names) (words : ℕ) (port : Port) → IfOk (declared_one fault constants names words port) HasSmallSizes
one_small fault constants names words port =
    if_given (measured constants words port) _ HasSmallSizes HasSmallSizes (measured_small constants words port)
    (λ var small. if_given (fresh fault constants names port.at) _ Anything HasSmallSizes (any (fresh fault constants names port.at)) (λ x y. small))

abbrev AllSmall : List Var → Type 0
AllSmall vars = AllByRecursion HasSmallSizes vars

declared_small : (fault : Fault) (is_fixed : Bool) (constants : Constants) (names : Names) (words : ℕ) (ports : List Port) → IfOk (declared fault is_fixed constants names words ports) AllSmall
declared_small fault is_fixed constants names words [] = tt
declared_small fault is_fixed constants names words (port ∷ ports) =
    if_given (declared_one fault constants names words port) _ HasSmallSizes AllSmall (one_small fault constants names words port)
    (λ var one. if_given (declared fault is_fixed constants (names ++ named is_fixed var ∷ []) (words + product var.shape.sizes) ports) _ AllSmall AllSmall
    (declared_small fault is_fixed constants (names ++ named is_fixed var ∷ []) (words + product var.shape.sizes) ports) (λ vars more. (one, more)))

all_append : (front back : List Var) → AllSmall front → AllSmall back → AllSmall (front ++ back)
all_append [] back f b = b
all_append (v ∷ front) back f b = (f.0, all_append front back f.1 b)

-- the head of a module
abbrev ArePorts : Ports → Type 0
ArePorts ports = AllSmall ports.ins × AllSmall ports.outs

ports_small : (constants : Constants) (in_ports out_ports : List Port) → IfOk (ports_of constants in_ports out_ports) ArePorts
ports_small constants in_ports out_ports =
    if_given (declared Twice true constants [] 0 in_ports) _ AllSmall ArePorts (declared_small Twice true constants [] 0 in_ports)
    (λ ins small. if_given (declared Twice false constants (map (named true) ins) 0 out_ports) _ AllSmall ArePorts
    (declared_small Twice false constants (map (named true) ins) 0 out_ports) (λ outs more. (small, more)))

budget_small : (constants : Constants) (clause : Option Num) → IfOk (budget_of constants clause) (λ budget. budget < 2 ^ 63)
budget_small constants None = omega arith
budget_small constants (Some num) =
    if_given (number_of constants num) _ Anything (λ budget. budget < 2 ^ 63) (any (number_of constants num))
    (λ value x. ok_if (nat_le 1 (natural value) && nat_le (natural value) 100000000) (natural value) _ (λ budget. budget < 2 ^ 63) (λ e. low (natural value) e))
  where
    low : (n : ℕ) → nat_le 1 n && nat_le n 100000000 ≡ true → n < 2 ^ 63
    low n e = let q : n ≤ 100000000 = grind (arith, nat_tests) in omega arith

-- the local variables, and the names of the statements
record AreLocals (constants : Constants) (names : Names) (statements : Statements) (locals : List Var) : Type 0 where
  small : AllSmall locals
  keeps : mentions_rule constants (names ++ map (named false) locals) (code_mentions statements) ≡ kept

locals_kept : (constants : Constants) (names : Names) (local_ports : List Port) (statements : Statements) → IfOk (checked_locals constants names local_ports statements) (AreLocals constants names statements)
locals_kept constants names local_ports statements =
    if_given (declared DeclaredTwice false constants names 0 local_ports) _ AllSmall (AreLocals constants names statements) (declared_small DeclaredTwice false constants names 0 local_ports)
    (λ locals small. by locals small (mentions_rule constants (names ++ map (named false) locals) (code_mentions statements)) refl)
  where
    by : (locals : List Var) → AllSmall locals → (v : Verdict) → mentions_rule constants (names ++ map (named false) locals) (code_mentions statements) ≡ v
        → IfOk (given v (λ x. Ok locals)) (AreLocals constants names statements)
    by locals small (Ok x) e = record { small = small; keeps = e }
    by locals small (Err f) e = tt

shapes_append : (front back : List Var) → vars_shapes (front ++ back) ≡ vars_shapes front ++ vars_shapes back
shapes_append front back = map-append (λ (var : Var). (var.name, var.shape.sizes)) front back

body_writes : (constants : Constants) (home : ℕ) (ports : Ports) (budget : ℕ) (pos : Pos) (inside : InsideTree) → ConstantsFit constants → ArePorts ports → budget < 2 ^ 63 → InsideFits inside
    → IfOk (checked_body constants home ports budget pos inside) IsWritable
body_writes constants home ports budget pos (calls cs) k are limit h = tt
body_writes constants home ports budget pos (turning b c) k are limit h = tt
body_writes constants home ports budget pos (body local_ports statements) k are limit h =
    if_given (checked_locals constants (port_names ports) local_ports statements) _ (AreLocals constants (port_names ports) statements) IsWritable
    (locals_kept constants (port_names ports) local_ports statements)
    (λ locals l. by locals l)
  where
    by : (locals : List Var) → AreLocals constants (port_names ports) statements locals → IsWritable (record {
      home = home;
      ins = ports.ins;
      outs = ports.outs;
      locals = locals;
      budget = budget;
      body = statements;
      constants = constants;
    })
    by locals l =
        let vars = (ports.ins ++ ports.outs) ++ locals in
        let same : vars_shapes vars ≡ (vars_shapes ports.ins ++ vars_shapes ports.outs) ++ vars_shapes locals =
        shapes_append (ports.ins ++ ports.outs) locals ∙ ap (λ s. s ++ vars_shapes locals) (shapes_append ports.ins ports.outs) in record {
          fits = subst (λ s. FitsLines s (s ++ map scalar constants) statements) same
              (fits constants (port_names ports ++ map (named false) locals) vars statements
              (named_append (port_names ports) (map (named false) locals) (ports.ins ++ ports.outs) locals
              (named_append (map (named true) ports.ins) (map (named false) ports.outs) ports.ins ports.outs (are_named true ports.ins) (are_named false ports.outs))
              (are_named false locals))
              h l.keeps);
          sizes = all_append (ports.ins ++ ports.outs) locals (all_append ports.ins ports.outs are.0 are.1) l.small;
          constants = k;
          budget = limit;
        }

pub module_writes : (constants : Constants) (home : ℕ) (m : ModuleTree) → ConstantsFit constants → InsideFits m.inside → IfOk (checked_seq constants home m) IsWritable
module_writes constants home m k h =
    if_given (ports_of constants m.ins m.outs) _ ArePorts IsWritable (ports_small constants m.ins m.outs)
    (λ ports are. if_given (budget_of constants m.clauses.budget) _ (λ budget. budget < 2 ^ 63) IsWritable (budget_small constants m.clauses.budget)
    (λ budget limit. if_given (rescue_of constants m.clauses.rescue) _ Anything IsWritable (any (rescue_of constants m.clauses.rescue))
    (λ rescue x. body_writes constants home ports budget m.at.pos m.inside k are limit h)))

pub checked_writes : CheckedWrites
checked_writes constants home m seq k h e = by (checked_seq constants home m) e (module_writes constants home m k h)
  where
    by : (r : Result SeqTree SourceRefusal) → r ≡ Ok seq → IfOk r IsWritable → IsWritable seq
    by (Ok other) e w = let same : other ≡ seq = cc in subst IsWritable same w
    by (Err f) e w = absurd cc
