-- The checked body of a module that keeps the limits can be compiled.
use Rattle.std.proofs.Common.{◌≡◌, ℕ, ℤ, ◌≤◌, true, false, ◌&&◌, List, [], ◌++◌, map, Option, Some, None, Result, Ok, Err, IfOk, refl, sym, ap, ◌∙◌, subst, arith}
use Rattle.std.specs.Prelude.{nat_le}
use Rattle.std.proofs.lemmas.Bool.Decides.{nat_tests}
use Rattle.p3l_ast.specs.declared.position.Pos.{Pos}
use Rattle.p3l_ast.specs.declared.port.Num.{Num}
use Rattle.p3l_ast.specs.declared.port.Port.{Port}
use Rattle.p3l_ast.specs.declared.refusal.Fault.TheVariants.{Twice, DeclaredTwice}
use Rattle.p3l_ast.specs.declared.refusal.SourceRefusal.{SourceRefusal}
use Rattle.p3l_ast.specs.Tree.{Statements, InsideTree, body, calls, turning, ModuleTree}
use Rattle.p3l_types.specs.Verdict.{Verdict, kept, given}
use Rattle.p3l_types.specs.Constants.{Constants, number_of, natural}
use Rattle.p3l_body.specs.declared.var.Var.{Var}
use Rattle.p3l_body.specs.declared.ports.Ports.{Ports}
use Rattle.p3l_body.specs.Scope.{Names, named, declared}
use Rattle.p3l_body.specs.Mention.{code_mentions, mentions_rule}
use Rattle.p3l_body.specs.Seq.{SeqTree, ports_of, port_names, budget_of, rescue_of, checked_locals, checked_body, checked_seq}
use Rattle.p3l_compile.specs.Condition.{IsCompilable}
use Rattle.p3l_body_laws.proofs.Passages.{InsideKeeps}
use Rattle.p3l_body_laws.proofs.Declared.{if_given, ok_if, keys, keys_named, keys_append, names_in, names_append, Declares, all_declared, declared_few, declared_arrays, declared_apart, declared_differ, differ_append, all_append}
use Rattle.p3l_body_laws.proofs.Fitting.{are_named, named_append, fits}

-- the ins, and the outs after them
record ArePorts (constants : Constants) (ports : Ports) : Type 0 where
  ins : Declares constants [] 0 ports.ins
  outs : Declares constants (names_in ports.ins) 0 ports.outs

ports_declared : (constants : Constants) (in_ports out_ports : List Port) → IfOk (ports_of constants in_ports out_ports) (ArePorts constants)
unfolding keys
ports_declared constants in_ports out_ports =
    if_given (declared Twice true constants [] 0 in_ports) _ (Declares constants [] 0) (ArePorts constants) (all_declared Twice true constants [] 0 in_ports (omega arith))
    (λ ins are_ins. if_given (declared Twice false constants (map (named true) ins) 0 out_ports) _ (Declares constants (keys (map (named true) ins)) 0) (ArePorts constants)
    (all_declared Twice false constants (map (named true) ins) 0 out_ports (omega arith))
    (λ outs are_outs. record { ins = are_ins; outs = subst (λ before. Declares constants before 0 outs) (keys_named true ins) are_outs }))

record IsBudget (budget : ℕ) : Type 0 where
  some : 1 ≤ budget
  small : budget ≤ 100000000

budget_limited : (constants : Constants) (clause : Option Num) → IfOk (budget_of constants clause) IsBudget
budget_limited constants None = record { some = omega arith; small = omega arith }
budget_limited constants (Some num) =
    if_given (number_of constants num) _ (λ value. Unit {0}) IsBudget (any (number_of constants num))
    (λ value x. ok_if (nat_le 1 (natural value) && nat_le (natural value) 100000000) (natural value) _ IsBudget (λ e. within (natural value) e))
  where
    any : (r : Result ℤ SourceRefusal) → IfOk r (λ value. Unit {0})
    any (Ok value) = tt
    any (Err e) = tt

    within : (n : ℕ) → nat_le 1 n && nat_le n 100000000 ≡ true → IsBudget n
    within n e = record { some = grind (arith, nat_tests); small = grind (arith, nat_tests) }

-- the local variables, and the names of the statements
record AreLocals (constants : Constants) (names : Names) (statements : Statements) (locals : List Var) : Type 0 where
  declares : Declares constants (keys names) 0 locals
  keeps : mentions_rule constants (names ++ map (named false) locals) (code_mentions statements) ≡ kept

locals_declared : (constants : Constants) (names : Names) (local_ports : List Port) (statements : Statements) →
    IfOk (checked_locals constants names local_ports statements) (AreLocals constants names statements)
locals_declared constants names local_ports statements =
    if_given (declared DeclaredTwice false constants names 0 local_ports) _ (Declares constants (keys names) 0) (AreLocals constants names statements)
    (all_declared DeclaredTwice false constants names 0 local_ports (omega arith))
    (λ locals are. by locals are (mentions_rule constants (names ++ map (named false) locals) (code_mentions statements)) refl)
  where
    by : (locals : List Var) → Declares constants (keys names) 0 locals → (v : Verdict) → mentions_rule constants (names ++ map (named false) locals) (code_mentions statements) ≡ v →
        IfOk (given v (λ x. Ok locals)) (AreLocals constants names statements)
    by locals are (Ok x) e = record { declares = are; keeps = e }
    by locals are (Err f) e = tt

body_compilable : (n : ℕ) (constants : Constants) (home : ℕ) (ports : Ports) (budget : ℕ) (pos : Pos) (inside : InsideTree) → n ≤ 1048576 →
    ArePorts constants ports → IsBudget budget → InsideKeeps n inside → IfOk (checked_body constants home ports budget pos inside) IsCompilable
body_compilable n constants home ports budget pos (calls cs) short are limit h = tt
body_compilable n constants home ports budget pos (turning b c) short are limit h = tt
body_compilable n constants home ports budget pos (body local_ports statements) short are limit h =
    if_given (checked_locals constants (port_names ports) local_ports statements) _ (AreLocals constants (port_names ports) statements) IsCompilable
    (locals_declared constants (port_names ports) local_ports statements)
    (λ locals l. by locals l)
  where
    by : (locals : List Var) → AreLocals constants (port_names ports) statements locals → IsCompilable (record {
      home = home;
      ins = ports.ins;
      outs = ports.outs;
      locals = locals;
      budget = budget;
      body = statements;
      constants = constants;
    })
    by locals l =
        let before : keys (port_names ports) ≡ names_in (ports.ins ++ ports.outs) =
        keys_append (map (named true) ports.ins) (map (named false) ports.outs)
        ∙ ap (λ front. front ++ keys (map (named false) ports.outs)) (keys_named true ports.ins)
        ∙ ap (λ back. names_in ports.ins ++ back) (keys_named false ports.outs)
        ∙ sym (names_append ports.ins ports.outs) in
        let after : Declares constants (names_in (ports.ins ++ ports.outs)) 0 locals = subst (λ names. Declares constants names 0 locals) before l.declares in
        let heads = differ_append constants ports.ins ports.outs
        (declared_differ constants [] 0 ports.ins are.ins) (declared_differ constants (names_in ports.ins) 0 ports.outs are.outs)
        (declared_apart constants (names_in ports.ins) 0 ports.outs are.outs) in
        let ins_few = declared_few constants [] 0 ports.ins are.ins in
        let outs_few = declared_few constants (names_in ports.ins) 0 ports.outs are.outs in
        let locals_few = declared_few constants (names_in (ports.ins ++ ports.outs)) 0 locals after in record {
          differ = differ_append constants (ports.ins ++ ports.outs) locals heads
              (declared_differ constants (names_in (ports.ins ++ ports.outs)) 0 locals after)
              (declared_apart constants (names_in (ports.ins ++ ports.outs)) 0 locals after);
          arrays = all_append _ (ports.ins ++ ports.outs) locals
              (all_append _ ports.ins ports.outs (declared_arrays constants [] 0 ports.ins are.ins) (declared_arrays constants (names_in ports.ins) 0 ports.outs are.outs))
              (declared_arrays constants (names_in (ports.ins ++ ports.outs)) 0 locals after);
          few_ins = omega (arith, ins_few);
          few_outs = omega (arith, outs_few);
          few_locals = omega (arith, locals_few);
          some_budget = limit.some;
          small_budget = limit.small;
          fits = fits constants (port_names ports ++ map (named false) locals) ((ports.ins ++ ports.outs) ++ locals) statements
              (named_append (port_names ports) (map (named false) locals) (ports.ins ++ ports.outs) locals
              (named_append (map (named true) ports.ins) (map (named false) ports.outs) ports.ins ports.outs (are_named true ports.ins) (are_named false ports.outs))
              (are_named false locals))
              l.keeps;
          limits = h.0;
          few = omega (arith, h.1);
        }

any_rescue : (r : Result (Option ℤ) SourceRefusal) → IfOk r (λ rescue. Unit {0})
any_rescue (Ok rescue) = tt
any_rescue (Err e) = tt

-- a module with statements that keep the limits and hold fewer things than a text has bytes
pub compilable : (n : ℕ) (constants : Constants) (home : ℕ) (m : ModuleTree) → n ≤ 1048576 → InsideKeeps n m.inside → IfOk (checked_seq constants home m) IsCompilable
compilable n constants home m short keeps =
    if_given (ports_of constants m.ins m.outs) _ (ArePorts constants) IsCompilable (ports_declared constants m.ins m.outs)
    (λ ports are. if_given (budget_of constants m.clauses.budget) _ IsBudget IsCompilable (budget_limited constants m.clauses.budget)
    (λ budget limit. if_given (rescue_of constants m.clauses.rescue) _ (λ rescue. Unit {0}) IsCompilable (any_rescue (rescue_of constants m.clauses.rescue))
    (λ rescue x. body_compilable n constants home ports budget m.at.pos m.inside short are limit keeps)))

-- a checked body has its module's number
body_home : (constants : Constants) (home : ℕ) (ports : Ports) (budget : ℕ) (pos : Pos) (inside : InsideTree) →
    IfOk (checked_body constants home ports budget pos inside) (λ seq. seq.home ≡ home)
body_home constants home ports budget pos (calls cs) = tt
body_home constants home ports budget pos (turning b c) = tt
body_home constants home ports budget pos (body local_ports statements) =
    by (checked_locals constants (port_names ports) local_ports statements)
  where
    by : (r : Result (List Var) SourceRefusal) → IfOk (given r (λ locals. Ok (record {
      home = home;
      ins = ports.ins;
      outs = ports.outs;
      locals = locals;
      budget = budget;
      body = statements;
      constants = constants;
    }))) (λ (seq : SeqTree). seq.home ≡ home)
    by (Ok locals) = refl
    by (Err e) = tt

pub checked_home : (constants : Constants) (home : ℕ) (m : ModuleTree) → IfOk (checked_seq constants home m) (λ seq. seq.home ≡ home)
checked_home constants home m =
    if_given (ports_of constants m.ins m.outs) _ (ArePorts constants) _ (ports_declared constants m.ins m.outs)
    (λ ports are. if_given (budget_of constants m.clauses.budget) _ IsBudget _ (budget_limited constants m.clauses.budget)
    (λ budget limit. if_given (rescue_of constants m.clauses.rescue) _ (λ rescue. Unit {0}) _ (any_rescue (rescue_of constants m.clauses.rescue))
    (λ rescue x. body_home constants home ports budget m.at.pos m.inside)))
