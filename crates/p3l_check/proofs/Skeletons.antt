-- A module that passes the rules of its kind fits those that it calls.
use Rattle.std.proofs.Common.{◌≡◌, ℕ, ◌<◌, ◌≤◌, Bool, true, false, IfSome, List, [], ◌∷◌, length, slice_index, Ok, Option, None, Some, refl, sym, ap, ◌∙◌, subst, arith}
use Rattle.std.specs.Prelude.{bytes_eq, min}
use Rattle.std.specs.List.{AllByRecursion}
use Rattle.std.specs.Cmp.Lexicographic.{same_text}
use Rattle.std.proofs.lemmas.List.Elements.{All-from_recursion}
use Rattle.p3l_base.specs.Cut.{element_count}
use Rattle.p3l_ast.specs.declared.position.Pos.{Pos}
use Rattle.p3l_ast.specs.declared.refusal.Fault.TheVariants.{LoopTypes}
use Rattle.p3l_ast.specs.declared.call.Call.{Call}
use Rattle.p3l_ast.specs.declared.module.Kind.{Kind}
use Rattle.p3l_ast.specs.declared.module.Kind.TheVariants as kinds
use Rattle.p3l_ast.specs.Tree.{InsideTree, body, calls, turning, ModuleTree}
use Rattle.p3l_types.specs.Shape.{product}
use Rattle.p3l_body.specs.declared.var.Var.{Var}
use Rattle.p3l_body.specs.declared.ports.Ports.{Ports}
use Rattle.p3l_body.specs.Seq.{port_names}
use Rattle.p3l_skel.specs.declared.tree.Form.TheVariants as forms
use Rattle.p3l_skel.specs.Tree.{sequential_row}
use Rattle.p3l_skel.specs.Counts.{IsCountInRange, workers_of}
use Rattle.p3l_skel.specs.Lawful.{kind_of}
use Rattle.p3l_check.specs.Wiring.{module_at, IsSequentialModule, IsCallableForm}
use Rattle.p3l_calls.specs.Port.{total, AreSized}
use Rattle.p3l_calls.specs.Plain.{plain_call}
use Rattle.p3l_calls.specs.Condition.{condition}
use Rattle.p3l_calls.specs.Map.{cut_of}
use Rattle.p3l_calls.specs.Reduce.{elements_of}
use Rattle.p3l_calls.proofs.Kept.{given-taken, kept-true, both-left, both-right}
use Rattle.p3l_calls.proofs.Chains.{HasTotals, plain_call-totals, condition-totals}
use Rattle.p3l_calls.proofs.Cuts.{cut-fits}
use Rattle.p3l_calls.proofs.Operators.{elements-fit}
use Rattle.p3l_check.specs.declared.skeleton.Skeleton.{Skeleton}
use Rattle.p3l_check.specs.Modules.{Modules, ports_at}
use Rattle.p3l_check.specs.Environment.{Before}
use Rattle.p3l_check.specs.Clauses.{farm_workers, map_workers, reduce_workers, turns_of, tokens_of}
use Rattle.p3l_check.specs.Callee.{called, operator_called}
use Rattle.p3l_check.specs.Inside.{some_calls, calls_of, call_of, turning_of}
use Rattle.p3l_check.specs.Skeleton.{stages, farm_of, map_of, reduce_of, same_types, loop_rule, loop_body, loop_condition, loop_of, skeleton_of}
use Rattle.p3l_check.specs.Entry.{kind_in}
use Rattle.p3l_check.proofs.Ranges.{IsWithin, upto-within, reduce-within, turns-within, tokens-within}
use Rattle.p3l_check.proofs.Called.{IsCalled, called-is, operator-is}
use Rattle.p3l_check.proofs.Staged.{HavePorts, AreStaged, staged-are}

-- the skeleton of a module fits the modules before it, if it takes `ins` words and gives `outs`
pub record IsFitting (modules : Modules) (kind : Kind) (ins outs : ℕ) (skeleton : Skeleton) : Type 0 where
  pub kind_is : kind_in kind ≡ kind_of skeleton.form
  pub workers : IfSome (workers_of skeleton.form) (IsCountInRange skeleton.form)
  pub earlier : AllByRecursion (λ c. c < length modules.callables) skeleton.calls
  pub form : IsCallableForm modules.callables skeleton.form ins outs skeleton.calls
  pub sequential : skeleton.sequential ≡ sequential_row skeleton.form (module_at modules.callables (slice_index skeleton.calls 0)).sequential

some-of : (pos : Pos) (cs ds : List Call) → some_calls pos cs ≡ Ok ds → 1 ≤ length ds
some-of pos [] ds e = absurd cc
some-of pos (c ∷ cs) ds e = let is : c ∷ cs ≡ ds = cc in subst (λ xs. 1 ≤ length xs) is (omega arith)

calls-some : (pos : Pos) (inside : InsideTree) (ds : List Call) → calls_of pos inside ≡ Ok ds → 1 ≤ length ds
calls-some pos (body ports statements) ds e = absurd cc
calls-some pos (calls cs) ds e = some-of pos cs ds e
calls-some pos (turning c d) ds e = absurd cc

types-total : (vars others : List Var) → same_types vars others ≡ true → total vars ≡ total others
types-total [] [] e = refl
types-total [] (other ∷ others) e = absurd cc
types-total (var ∷ vars) [] e = absurd cc
types-total (var ∷ vars) (other ∷ others) e =
    let same : product var.shape.sizes ≡ product other.shape.sizes =
    ap product (same_text var.shape.sizes other.shape.sizes (sym (both-left (bytes_eq var.shape.sizes other.shape.sizes) (same_types vars others) e))) in
    let rest : total vars ≡ total others = types-total vars others (both-right (bytes_eq var.shape.sizes other.shape.sizes) (same_types vars others) e) in
    omega arith

-- variables that have words are some
total-length : (vars : List Var) → 1 ≤ total vars → 1 ≤ length vars
total-length [] h = absurd (omega (arith, h))
total-length (var ∷ vars) h = omega arith

-- each module takes words
abbrev pub HaveIns : Modules → Type 0
HaveIns modules = (k : ℕ) → k < length modules.callables → 1 ≤ (module_at modules.callables k).ins

if_some_weaker : (P Q : ℕ → Type 0) → ((n : ℕ) → P n → Q n) → (o : Option ℕ) → IfSome o P → IfSome o Q
if_some_weaker P Q f None h = tt
if_some_weaker P Q f (Some n) h = f n h

module _ (before : Before) (same : length before.modules.callables ≡ length before.modules.infos) (have : HavePorts before.modules)
    (filled : HaveIns before.modules) (m : ModuleTree) (ports : Ports) where
  stages-are : (in_process : Bool) (ks : List ℕ) → stages in_process before m ports ≡ Ok ks → AreStaged in_process before.modules (total ports.ins) (total ports.outs) ks
  stages-are in_process ks e =
      let found = given-taken (calls_of m.at.pos m.inside) _ ks e in
      staged-are in_process before ports.outs same have found.0 (port_names ports) ports.ins ks (calls-some m.at.pos m.inside found.0 found.1) found.2

  comp-fits : (ks : List ℕ) → stages true before m ports ≡ Ok ks →
      IsFitting before.modules kinds.Comp (total ports.ins) (total ports.outs) (record { form = forms.Comp; calls = ks; sequential = true })
  comp-fits ks e =
      let are = stages-are true ks e in
      record {
        kind_is = refl;
        workers = tt;
        earlier = are.inside;
        form = (are.some, are.chain, All-from_recursion (IsSequentialModule before.modules.callables) ks (are.sequential refl));
        sequential = refl;
      }

  pipe-fits : (ks : List ℕ) → stages false before m ports ≡ Ok ks →
      IsFitting before.modules kinds.Pipe (total ports.ins) (total ports.outs) (record { form = forms.Pipe; calls = ks; sequential = false })
  pipe-fits ks e =
      let are = stages-are false ks e in
      record { kind_is = refl; workers = tt; earlier = are.inside; form = (are.some, are.chain); sequential = refl }

  -- the words of a callee
  callee-words : (k ins outs : ℕ) → k < length before.modules.callables → HasTotals (ports_at before.modules k) ins outs →
      ((module_at before.modules.callables k).ins ≡ ins) × ((module_at before.modules.callables k).outs ≡ outs)
  callee-words k ins outs inside totals =
      let own = have k inside in (sym own.takes ∙ totals.takes, sym own.gives ∙ totals.gives)

  plain-words : (call : Call) (k : ℕ) (u : Unit {0}) → IsCalled false before.modules call k → plain_call ports.ins ports.outs (ports_at before.modules k) call ≡ Ok u →
      ((module_at before.modules.callables k).ins ≡ total ports.ins) × ((module_at before.modules.callables k).outs ≡ total ports.outs)
  plain-words call k u is e =
      callee-words k (total ports.ins) (total ports.outs) is.runs.inside (plain_call-totals ports.ins ports.outs (ports_at before.modules k) call u is.arity.ins is.arity.outs e)

  farm-fits : (skeleton : Skeleton) → farm_of before m ports ≡ Ok skeleton → IsFitting before.modules kinds.Farm (total ports.ins) (total ports.outs) skeleton
  farm-fits skeleton e =
      let workers = given-taken (farm_workers before.constants m.clauses.workers) _ skeleton e in
      let call = given-taken (call_of m.at.pos m.inside) _ skeleton workers.2 in
      let callee = given-taken (called false before call.0) _ skeleton call.2 in
      let passed = given-taken (plain_call ports.ins ports.outs (ports_at before.modules callee.0) call.0) _ skeleton callee.2 in
      let made : Skeleton = record { form = forms.Farm workers.0; calls = callee.0 ∷ []; sequential = false } in
      let is : made ≡ skeleton = cc (passed.2) in
      let found = called-is false before call.0 callee.0 same callee.1 in
      let words = plain-words call.0 callee.0 passed.0 found passed.1 in
      subst (IsFitting before.modules kinds.Farm (total ports.ins) (total ports.outs)) {x = made} is
      (record {
        kind_is = refl;
        workers = upto-within 512 before.constants m.clauses.workers workers.0 workers.1;
        earlier = (found.runs.inside, tt);
        form = record { takes = words.0; gives = words.1 };
        sequential = refl;
      })

  map-fits : AreSized ports.ins → AreSized ports.outs → 1 ≤ total ports.outs → (skeleton : Skeleton) → map_of before m ports ≡ Ok skeleton →
      IsFitting before.modules kinds.Map (total ports.ins) (total ports.outs) skeleton
  map-fits sized_ins sized_outs some_outs skeleton e =
      let call = given-taken (call_of m.at.pos m.inside) _ skeleton e in
      let callee = given-taken (called false before call.0) _ skeleton call.2 in
      let cut = given-taken (cut_of ports (ports_at before.modules callee.0) call.0) _ skeleton callee.2 in
      let workers = given-taken (map_workers (element_count cut.0) before.constants m.clauses.workers) _ skeleton cut.2 in
      let made : Skeleton = record { form = forms.Map workers.0 cut.0; calls = callee.0 ∷ []; sequential = (module_at before.modules.callables callee.0).sequential } in
      let is : made ≡ skeleton = cc (workers.2) in
      let found = called-is false before call.0 callee.0 same callee.1 in
      let own = have callee.0 found.runs.inside in
      let taken : 1 ≤ total (ports_at before.modules callee.0).ins = subst (λ n. 1 ≤ n) (sym own.takes) (filled callee.0 found.runs.inside) in
      let some_in : 1 ≤ length call.0.ins = omega (arith, found.arity.ins, total-length (ports_at before.modules callee.0).ins taken) in
      let fits = cut-fits ports (ports_at before.modules callee.0) call.0 cut.0 sized_ins sized_outs (total-length ports.outs some_outs) some_in found.arity.ins found.arity.outs cut.1 in
      let range = upto-within (min (element_count cut.0) 512) before.constants m.clauses.workers workers.0 workers.1 in
      subst (IsFitting before.modules kinds.Map (total ports.ins) (total ports.outs)) {x = made} is
      (record {
        kind_is = refl;
        workers = if_some_weaker (IsWithin 1 (min (element_count cut.0) 512)) (IsCountInRange (forms.Map workers.0 cut.0)) (λ n h. map-range (element_count cut.0) n h) workers.0 range;
        earlier = (found.runs.inside, tt);
        form = record {
          in_sizes = fits.in_sizes;
          out_sizes = fits.out_sizes;
          cuts = rw (sym own.takes, sym own.gives) fits.cuts;
        };
        sequential = refl;
      })
    where
      map-range : (elements n : ℕ) → IsWithin 1 (min elements 512) n → (1 ≤ n) × (n ≤ elements) × (n ≤ 512)
      map-range elements n h = let most : n ≤ min elements 512 = h.1 in (h.0, omega arith, omega arith)

  reduce-fits : (skeleton : Skeleton) → reduce_of before m ports ≡ Ok skeleton → IsFitting before.modules kinds.Reduce (total ports.ins) (total ports.outs) skeleton
  reduce-fits skeleton e =
      let call = given-taken (call_of m.at.pos m.inside) _ skeleton e in
      let callee = given-taken (operator_called before call.0) _ skeleton call.2 in
      let elements = given-taken (elements_of m.at.pos ports (ports_at before.modules callee.0) call.0) _ skeleton callee.2 in
      let workers = given-taken (reduce_workers elements.0.len before.constants m.clauses.workers) _ skeleton elements.2 in
      let made : Skeleton = record {
        form = forms.Reduce workers.0 elements.0.len elements.0.elem;
        calls = callee.0 ∷ [];
        sequential = (module_at before.modules.callables callee.0).sequential;
      } in
      let is : made ≡ skeleton = cc (workers.2) in
      let runs = operator-is before call.0 callee.0 same callee.1 in
      let folds = elements-fit m.at.pos ports (ports_at before.modules callee.0) call.0 elements.0 elements.1 in
      let own = have callee.0 runs.inside in
      subst (IsFitting before.modules kinds.Reduce (total ports.ins) (total ports.outs)) {x = made} is
      (record {
        kind_is = refl;
        workers = reduce-within elements.0.len before.constants m.clauses.workers workers.0 workers.1;
        earlier = (runs.inside, tt);
        form = record {
          elements = folds.elements_fit;
          result = folds.result;
          operator = record { takes = sym own.takes ∙ folds.takes; gives = sym own.gives ∙ folds.gives };
          sequential = runs.sequential refl;
        };
        sequential = refl;
      })

  loop-fits : (skeleton : Skeleton) → loop_of before m ports ≡ Ok skeleton → IsFitting before.modules kinds.Loop (total ports.ins) (total ports.outs) skeleton
  loop-fits skeleton e =
      let turns = given-taken (turns_of m.at.pos before.constants m.clauses.turns) _ skeleton e in
      let tokens = given-taken (tokens_of before.constants m.clauses.tokens) _ skeleton turns.2 in
      let types = given-taken (loop_rule ports m.at) _ skeleton tokens.2 in
      let pair = given-taken (turning_of m.at.pos m.inside) _ skeleton types.2 in
      let inner = given-taken (loop_body before ports pair.0.0) _ skeleton pair.2 in
      let test = given-taken (loop_condition before ports pair.0.1) _ skeleton inner.2 in
      let made : Skeleton = record { form = forms.Loop turns.0 tokens.0; calls = inner.0 ∷ test.0 ∷ []; sequential = false } in
      let is : made ≡ skeleton = cc (test.2) in
      let body_callee = given-taken (called false before pair.0.0) _ inner.0 inner.1 in
      let body_passed = given-taken (plain_call ports.ins ports.outs (ports_at before.modules body_callee.0) pair.0.0) _ inner.0 body_callee.2 in
      let body_is : body_callee.0 ≡ inner.0 = cc (body_passed.2) in
      let body_found = called-is false before pair.0.0 body_callee.0 same body_callee.1 in
      let body_words = plain-words pair.0.0 body_callee.0 body_passed.0 body_found body_passed.1 in
      let test_callee = given-taken (called true before pair.0.1) _ test.0 test.1 in
      let test_passed = given-taken (condition before.constants (port_names ports) ports.outs (ports_at before.modules test_callee.0) pair.0.1) _ test.0 test_callee.2 in
      let test_is : test_callee.0 ≡ test.0 = cc (test_passed.2) in
      let test_found = called-is true before pair.0.1 test_callee.0 same test_callee.1 in
      let test_totals = condition-totals before.constants (port_names ports) ports.outs (ports_at before.modules test_callee.0) pair.0.1 test_passed.0 test_found.arity.ins test_passed.1 in
      let test_words = callee-words test_callee.0 (total ports.outs) 1 test_found.runs.inside test_totals in
      let equal : total ports.ins ≡ total ports.outs = types-total ports.ins ports.outs (kept-true (same_types ports.ins ports.outs) LoopTypes m.at.pos types.0 types.1) in
      let turns_in = turns-within m.at.pos before.constants m.clauses.turns turns.0 turns.1 in
      let tokens_in = tokens-within before.constants m.clauses.tokens tokens.0 tokens.1 in
      let whole : IsFitting before.modules kinds.Loop (total ports.ins) (total ports.outs) (record { form = forms.Loop turns.0 tokens.0; calls = body_callee.0 ∷ test_callee.0 ∷ []; sequential = false }) = record {
        kind_is = refl;
        workers = tt;
        earlier = (body_found.runs.inside, (test_found.runs.inside, tt));
        form = record {
          limits = record { some_turns = turns_in.0; few_turns = turns_in.1; some_tokens = tokens_in.0; few_tokens = tokens_in.1 };
          same_words = equal;
          turned = record { takes = body_words.0; gives = body_words.1 };
          tested = record { takes = test_words.0 ∙ sym equal; gives = test_words.1 };
          sequential = test_found.runs.sequential refl;
        };
        sequential = refl;
      } in
      let of_calls : (ks : List ℕ) → Type 0 = λ ks. IsFitting before.modules kinds.Loop (total ports.ins) (total ports.outs) (record { form = forms.Loop turns.0 tokens.0; calls = ks; sequential = false }) in
      subst (IsFitting before.modules kinds.Loop (total ports.ins) (total ports.outs)) is
      (subst (λ k. of_calls (inner.0 ∷ k ∷ [])) test_is (subst (λ k. of_calls (k ∷ test_callee.0 ∷ [])) body_is whole))

  pub skeleton-fits : (kind : Kind) → AreSized ports.ins → AreSized ports.outs → 1 ≤ total ports.outs → (skeleton : Skeleton) → skeleton_of kind before m ports ≡ Ok skeleton →
      IsFitting before.modules kind (total ports.ins) (total ports.outs) skeleton
  skeleton-fits kinds.Seq sized_ins sized_outs some_outs skeleton e =
      let made : Skeleton = record { form = forms.Seq; calls = []; sequential = true } in
      let is : made ≡ skeleton = cc in
      subst (IsFitting before.modules kinds.Seq (total ports.ins) (total ports.outs)) is
      (record { kind_is = refl; workers = tt; earlier = tt; form = refl; sequential = refl })
  skeleton-fits kinds.Comp sized_ins sized_outs some_outs skeleton e =
      let found = given-taken (stages true before m ports) _ skeleton e in
      let made : Skeleton = record { form = forms.Comp; calls = found.0; sequential = true } in
      let is : made ≡ skeleton = cc (found.2) in
      subst (IsFitting before.modules kinds.Comp (total ports.ins) (total ports.outs)) is (comp-fits found.0 found.1)
  skeleton-fits kinds.Pipe sized_ins sized_outs some_outs skeleton e =
      let found = given-taken (stages false before m ports) _ skeleton e in
      let made : Skeleton = record { form = forms.Pipe; calls = found.0; sequential = false } in
      let is : made ≡ skeleton = cc (found.2) in
      subst (IsFitting before.modules kinds.Pipe (total ports.ins) (total ports.outs)) is (pipe-fits found.0 found.1)
  skeleton-fits kinds.Farm sized_ins sized_outs some_outs skeleton e = farm-fits skeleton e
  skeleton-fits kinds.Map sized_ins sized_outs some_outs skeleton e = map-fits sized_ins sized_outs some_outs skeleton e
  skeleton-fits kinds.Reduce sized_ins sized_outs some_outs skeleton e = reduce-fits skeleton e
  skeleton-fits kinds.Loop sized_ins sized_outs some_outs skeleton e = loop-fits skeleton e
