-- The form and the calls of an accepted pipe, comp or farm.
use Rattle.std.proofs.Common.{◌≡◌, ℕ, Bool, true, false, List, [], ◌∷◌, ◌++◌, map, length, Option, Some, None, Ok, Err, refl, ap, sym, ◌∙◌, subst}
use Rattle.std.specs.Prelude.{◌==◌}
use Rattle.std.specs.Option.{option_map_or}
use Rattle.p3l_ast.specs.declared.position.Pos.{Pos}
use Rattle.p3l_ast.specs.declared.refusal.SourceRefusal.{SourceRefusal}
use Rattle.p3l_ast.specs.declared.call.Call.{Call}
use Rattle.p3l_ast.specs.declared.module.Kind.TheVariants as kinds
use Rattle.p3l_ast.specs.Tree.{ModuleTree, calls}
use Rattle.p3l_body.specs.declared.var.Var.{Var}
use Rattle.p3l_body.specs.declared.ports.Ports.{Ports}
use Rattle.p3l_body.specs.Scope.{Names, named}
use Rattle.p3l_skel.specs.declared.tree.Form.{Form}
use Rattle.p3l_skel.specs.declared.tree.Form.TheVariants as forms
use Rattle.p3l_check.specs.declared.skeleton.Skeleton.{Skeleton}
use Rattle.p3l_check.specs.Modules.{Modules, number_of, ports_at}
use Rattle.p3l_check.specs.Environment.{Before}
use Rattle.p3l_check.specs.Inside.{some_calls, calls_of, call_of}
use Rattle.p3l_check.specs.Callee.{callee_of, process_rule, arity_rule, runnable_callee, called}
use Rattle.p3l_check.specs.Clauses.{farm_workers}
use Rattle.p3l_calls.specs.Plain.{plain_call}
use Rattle.p3l_check.specs.Skeleton.{handed_on, staged, stages, skeleton_of}
use Rattle.p3l_rewrite.proofs.Added.{given_of, ok_same}

-- calls name the modules of these numbers
unfoldable pub AreNamed : Modules → List Call → List ℕ → Type 0
AreNamed modules [] [] = Unit {0}
AreNamed modules [] (k ∷ ks) = ⊥
AreNamed modules (c ∷ cs) [] = ⊥
AreNamed modules (c ∷ cs) (k ∷ ks) = (number_of modules c.at.name ≡ Some k) × AreNamed modules cs ks

pub some_number : (o : Option ℕ) (f : SourceRefusal) (k : ℕ) → option_map_or Ok o (Err f) ≡ Ok k → o ≡ Some k
some_number None f k e = absurd cc
some_number (Some n) f k e = ap Some (ok_same n k e)

pub called_number : (in_process : Bool) (before : Before) (call : Call) (k : ℕ) → called in_process before call ≡ Ok k → number_of before.modules call.at.name ≡ Some k
called_number in_process before call k e =
    let g = given_of (runnable_callee in_process before call) _ k e in
    let h = given_of (arity_rule (ports_at before.modules g.value) call) _ k g.then_is in
    let i = given_of (callee_of before call.at) _ g.value g.is in
    let j = given_of (process_rule in_process before.modules i.value call.at) _ g.value i.then_is in
    some_number (number_of before.modules call.at.name) _ i.value i.is ∙ ap Some (ok_same i.value g.value j.then_is ∙ ok_same g.value k h.then_is)

staged_numbers : (in_process : Bool) (before : Before) (names : Names) (taken outs : List Var) (cs : List Call) (ks : List ℕ) → staged in_process before names taken outs cs ≡ Ok ks → AreNamed before.modules cs ks
unfolding AreNamed
staged_numbers in_process before names taken outs [] ks e = subst (AreNamed before.modules []) (ok_same [] ks e) tt
staged_numbers in_process before names taken outs (c ∷ cs) ks e =
    let g = given_of (called in_process before c) _ ks e in
    let h = given_of (handed_on before names taken outs (length cs == 0) (ports_at before.modules g.value) c) _ ks g.then_is in
    let i = given_of (staged in_process before (names ++ map (named false) h.value) h.value outs cs) _ ks h.then_is in
    subst (AreNamed before.modules (c ∷ cs)) (ok_same (g.value ∷ i.value) ks i.then_is)
    (called_number in_process before c g.value g.is, staged_numbers in_process before (names ++ map (named false) h.value) h.value outs cs i.value i.is)

some_calls_are : (pos : Pos) (cs ds : List Call) → some_calls pos cs ≡ Ok ds → cs ≡ ds
some_calls_are pos [] ds e = absurd cc
some_calls_are pos (c ∷ cs) ds e = ok_same (c ∷ cs) ds e

stages_numbers : (in_process : Bool) (before : Before) (m : ModuleTree) (ports : Ports) (cs : List Call) (ks : List ℕ) → m.inside ≡ calls cs → stages in_process before m ports ≡ Ok ks → AreNamed before.modules cs ks
stages_numbers in_process before m ports cs ks inside e =
    let g = given_of (calls_of m.at.pos m.inside) _ ks e in
    let same : cs ≡ g.value = some_calls_are m.at.pos cs g.value (ap (calls_of m.at.pos) (sym inside) ∙ g.is) in
    subst (λ ds. AreNamed before.modules ds ks) (sym same) (staged_numbers in_process before _ _ _ g.value ks g.then_is)

-- a skeleton of this form, whose calls are these by their names
pub record IsMadeOf (modules : Modules) (form : Form) (cs : List Call) (skeleton : Skeleton) : Type 0 where
  pub form_is : skeleton.form ≡ form
  pub named : AreNamed modules cs skeleton.calls

pub pipe_made : (before : Before) (m : ModuleTree) (ports : Ports) (cs : List Call) (s : Skeleton) → m.inside ≡ calls cs → skeleton_of kinds.Pipe before m ports ≡ Ok s → IsMadeOf before.modules forms.Pipe cs s
pipe_made before m ports cs s inside e =
    let g = given_of (stages false before m ports) _ s e in
    subst (IsMadeOf before.modules forms.Pipe cs) (ok_same _ s g.then_is) (record { form_is = refl; named = stages_numbers false before m ports cs g.value inside g.is })

pub comp_made : (before : Before) (m : ModuleTree) (ports : Ports) (cs : List Call) (s : Skeleton) → m.inside ≡ calls cs → skeleton_of kinds.Comp before m ports ≡ Ok s → IsMadeOf before.modules forms.Comp cs s
comp_made before m ports cs s inside e =
    let g = given_of (stages true before m ports) _ s e in
    subst (IsMadeOf before.modules forms.Comp cs) (ok_same _ s g.then_is) (record { form_is = refl; named = stages_numbers true before m ports cs g.value inside g.is })

-- a farm of the module that its call names
pub record IsFarmMade (modules : Modules) (c : Call) (skeleton : Skeleton) : Type 0 where
  pub workers : Option ℕ
  pub worker : ℕ
  pub form_is : skeleton.form ≡ forms.Farm workers
  pub calls_are : skeleton.calls ≡ worker ∷ []
  pub named : number_of modules c.at.name ≡ Some worker

pub farm_made : (before : Before) (m : ModuleTree) (ports : Ports) (c : Call) (s : Skeleton) → m.inside ≡ calls (c ∷ []) → skeleton_of kinds.Farm before m ports ≡ Ok s → IsFarmMade before.modules c s
farm_made before m ports c s inside e =
    let g = given_of (farm_workers before.constants m.clauses.workers) _ s e in
    let h = given_of (call_of m.at.pos m.inside) _ s g.then_is in
    let i = given_of (called false before h.value) _ s h.then_is in
    let j = given_of (plain_call ports.ins ports.outs (ports_at before.modules i.value) h.value) _ s i.then_is in
    let same : c ≡ h.value = ok_same c h.value (ap (call_of m.at.pos) (sym inside) ∙ h.is) in
    subst (IsFarmMade before.modules c) (ok_same _ s j.then_is) (record {
      workers = g.value;
      worker = i.value;
      form_is = refl;
      calls_are = refl;
      named = ap (λ (d : Call). number_of before.modules d.at.name) same ∙ called_number false before h.value i.value i.is;
    })
