-- The modules of a program that keeps the rules fit those that they call.
use Rattle.std.proofs.Common.{◌≡◌, ℕ, suc, ℤ, ◌+◌, ◌<◌, ◌≤◌, Bool, true, false, ◌||◌, List, [], ◌∷◌, ◌++◌, map, length, IsTrue, IfSome, Option, Some, None, Result, Ok, refl, sym, ap, ◌∙◌, subst, arith, length-append, ⊎_elim}
use Rattle.std.specs.Prelude.{◌==◌}
use Rattle.std.proofs.Math.Seq.{get_or-append_seam}
use Rattle.std.proofs.lemmas.Bool.{cases_lt, eqb-false}
use Rattle.std.proofs.lemmas.List.{get_or_append_left}
use Rattle.p3l_ast.specs.declared.position.Pos.{Pos}
use Rattle.p3l_ast.specs.declared.port.Port.{Port}
use Rattle.p3l_ast.specs.declared.module.Kind.{Kind}
use Rattle.p3l_ast.specs.declared.module.Kind.TheVariants as kinds
use Rattle.p3l_ast.specs.declared.module.Rescue.{Rescue}
use Rattle.p3l_ast.specs.declared.module.Clauses.{Clauses}
use Rattle.p3l_ast.specs.declared.refusal.Fault.{Fault}
use Rattle.p3l_ast.specs.declared.refusal.Fault.TheVariants.{Expected, Twice}
use Rattle.p3l_ast.specs.declared.refusal.SourceRefusal.{SourceRefusal}
use Rattle.p3l_ast.specs.Tree.{ModuleTree, EntryTree, constant, defined}
use Rattle.p3l_types.specs.Constants.{Constants}
use Rattle.p3l_types.specs.Shape.{product}
use Rattle.p3l_body.specs.declared.var.Var.{Var}
use Rattle.p3l_body.specs.declared.ports.Ports.{Ports}
use Rattle.p3l_body.specs.Scope.{Names, named, declared_one, declared}
use Rattle.p3l_body.specs.Seq.{ports_of}
use Rattle.p3l_skel.specs.Lawful.{may_rescue, HasLawfulRescue}
use Rattle.p3l_check.specs.declared.callables.Callable.{Callable}
use Rattle.p3l_check.specs.Wiring.{module_at}
use Rattle.p3l_calls.specs.Port.{total, AreSized}
use Rattle.p3l_calls.proofs.Kept.{given-taken, kept-false}
use Rattle.p3l_calls.proofs.Chains.{HasTotals}
use Rattle.p3l_calls.proofs.Declares.{ports-sized, total-some}
use Rattle.p3l_check.specs.declared.defined.Defined.{Defined}
use Rattle.p3l_check.specs.Modules.{Modules, no_modules, no_ports, ports_at, with_module}
use Rattle.p3l_check.specs.Places.{defines}
use Rattle.p3l_check.specs.Environment.{Before}
use Rattle.p3l_check.specs.Clauses.{no_rescue, rescue_in}
use Rattle.p3l_check.specs.Skeleton.{skeleton_of}
use Rattle.p3l_check.specs.Entry.{Checked, none_checked, new_name, ports_in, body_in, kind_in, info_of, defined_as, defined_in, before_in, checked_entry, checked_entries}
use Rattle.p3l_check.specs.Callables.{AreCallables}
use Rattle.p3l_check.proofs.Kept.{IsNext, callables-more, none-callables, module-kept, module-last}
use Rattle.p3l_check.proofs.Staged.{HavePorts}
use Rattle.p3l_check.proofs.Skeletons.{skeleton-fits}

-- modules that fit those that they call, with their ports
pub record AreSound (modules : Modules) : Type 0 where
  pub wiring : AreCallables modules.infos modules.callables
  pub ported : length modules.ports ≡ length modules.infos
  pub have : HavePorts modules

pub none-sound : AreSound no_modules
none-sound = record { wiring = none-callables; ported = refl; have = λ k inside. absurd (omega (arith, inside)) }

-- a module that may be defined after others
pub record MayFollow (modules : Modules) (d : Defined) : Type 0 where
  pub rescue : HasLawfulRescue d.info
  pub next : IsNext modules.callables d.info.kind d.callables
  pub have : HasTotals d.ports d.callables.ins d.callables.outs

totals-same : (a b : Ports) (v w : Callable) → a ≡ b → v ≡ w → HasTotals a v.ins v.outs → HasTotals b w.ins w.outs
totals-same a b v w p q h = subst (λ x. HasTotals x w.ins w.outs) p (subst (λ (y : Callable). HasTotals a y.ins y.outs) q h)

pub sound-more : (modules : Modules) (d : Defined) → AreSound modules → MayFollow modules d → AreSound (with_module modules d)
sound-more modules d sound follows = record {
  wiring = callables-more modules.infos modules.callables d.info d.callables sound.wiring follows.rescue follows.next;
  ported = length-append modules.ports (d.ports ∷ []) ∙ (ap (λ n. n + 1) sound.ported ∙ sym (length-append modules.infos (d.info ∷ [])));
  have = λ k inside. ⊎_elim
      (λ h. let there : k < length modules.ports = omega (arith, sound.ported, sound.wiring.count) in
      totals-same _ _ _ _ (sym (get_or_append_left modules.ports (d.ports ∷ []) no_ports k there)) (sym (module-kept modules.callables d.callables k h)) (sound.have k h))
      (λ h. let last : length modules.callables ≡ k = omega (arith, simp length-append at inside) in
      let same : length modules.ports ≡ length modules.callables = sound.ported ∙ sym sound.wiring.count in
      let own : ports_at (with_module modules d) (length modules.callables) ≡ d.ports =
      ap (λ n. ports_at (with_module modules d) n) (sym same) ∙ get_or-append_seam modules.ports d.ports [] no_ports in
      subst (λ n. HasTotals (ports_at (with_module modules d) n) (module_at (modules.callables ++ d.callables ∷ []) n).ins (module_at (modules.callables ++ d.callables ∷ []) n).outs) last
      (totals-same _ _ _ _ (sym own) (sym (module-last modules.callables d.callables)) follows.have))
      (cases_lt k (length modules.callables));
}

-- as many variables as declarations
declared-many : (fault : Fault) (is_fixed : Bool) (constants : Constants) (names : Names) (words : ℕ) (ports : List Port) (vars : List Var) →
    declared fault is_fixed constants names words ports ≡ Ok vars → length vars ≡ length ports
declared-many fault is_fixed constants names words [] vars e = let none : [] ≡ vars = cc in ap length (sym none)
declared-many fault is_fixed constants names words (port ∷ ports) vars e =
    let here = given-taken (declared_one fault constants names words port) _ vars e in
    let more = given-taken (declared fault is_fixed constants (names ++ named is_fixed here.0 ∷ []) (words + product here.0.shape.sizes) ports) _ vars here.2 in
    let is : here.0 ∷ more.0 ≡ vars = cc (more.2) in
    let rest : length more.0 ≡ length ports = declared-many fault is_fixed constants (names ++ named is_fixed here.0 ∷ []) (words + product here.0.shape.sizes) ports more.0 more.1 in
    ap length (sym is) ∙ ap suc rest

ports-many : (constants : Constants) (in_ports out_ports : List Port) (ports : Ports) → ports_of constants in_ports out_ports ≡ Ok ports →
    (length ports.ins ≡ length in_ports) × (length ports.outs ≡ length out_ports)
ports-many constants in_ports out_ports ports e =
    let ins = given-taken (declared Twice true constants [] 0 in_ports) _ ports e in
    let outs = given-taken (declared Twice false constants (map (named true) ins.0) 0 out_ports) _ ports ins.2 in
    let made : Ports = record { ins = ins.0; outs = outs.0 } in
    let same : made ≡ ports = cc (outs.2) in (
      ap (λ (p : Ports). length p.ins) (sym same) ∙ declared-many Twice true constants [] 0 in_ports ins.0 ins.1,
      ap (λ (p : Ports). length p.outs) (sym same) ∙ declared-many Twice false constants (map (named true) ins.0) 0 out_ports outs.0 outs.1,
    )

modules-same : (checked a b : Checked) → (let r : Result Checked SourceRefusal = Ok a in r) ≡ Ok b → a.modules ≡ b.modules
modules-same checked a b e = let same : a ≡ b = cc in ap (λ (c : Checked). c.modules) same

some_if_not : (a b : Bool) → (a || b) ≡ false → (a ≡ false) × (b ≡ false)
some_if_not true b e = absurd cc
some_if_not false b e = (refl, e)

-- only a `seq` or a `comp` that passes has a rescue number

rescue-allowed : (rescue : Option ℤ) → IfSome rescue (λ number. IsTrue true)
rescue-allowed None = tt
rescue-allowed (Some number) = refl

rescue-none : (pos : Pos) (clause : Option Rescue) (rescue : Option ℤ) (P : ℤ → Type 0) → no_rescue pos clause ≡ Ok rescue → IfSome rescue P
rescue-none pos None rescue P e = let none : None ≡ rescue = cc in subst (λ r. IfSome r P) none tt
rescue-none pos (Some clause) rescue P e = absurd cc

rescue-lawful : (kind : Kind) (pos : Pos) (constants : Constants) (clauses : Clauses) (rescue : Option ℤ) → rescue_in kind pos constants clauses ≡ Ok rescue →
    IfSome rescue (λ number. IsTrue (may_rescue (kind_in kind)))
rescue-lawful kinds.Seq pos constants clauses rescue e = rescue-allowed rescue
rescue-lawful kinds.Comp pos constants clauses rescue e = rescue-allowed rescue
rescue-lawful kinds.Pipe pos constants clauses rescue e = rescue-none pos clauses.rescue rescue (λ number. IsTrue false) e
rescue-lawful kinds.Farm pos constants clauses rescue e = rescue-none pos clauses.rescue rescue (λ number. IsTrue false) e
rescue-lawful kinds.Map pos constants clauses rescue e = rescue-none pos clauses.rescue rescue (λ number. IsTrue false) e
rescue-lawful kinds.Reduce pos constants clauses rescue e = rescue-none pos clauses.rescue rescue (λ number. IsTrue false) e
rescue-lawful kinds.Loop pos constants clauses rescue e = rescue-none pos clauses.rescue rescue (λ number. IsTrue false) e

-- the ports of a module that passes: sized, and some
pub record AreGood (ports : Ports) : Type 0 where
  pub ins : AreSized ports.ins
  pub outs : AreSized ports.outs
  pub some_ins : 1 ≤ total ports.ins
  pub some_outs : 1 ≤ total ports.outs

pub ports-good : (constants : Constants) (m : ModuleTree) (ports : Ports) → ports_in constants m ≡ Ok ports → AreGood ports
ports-good constants m ports e =
    let rule = given-taken _ _ ports e in
    let sized = ports-sized constants m.ins m.outs ports rule.2 in
    let there = some_if_not (length m.ins == 0) (length m.outs == 0) (kept-false (length m.ins == 0 || length m.outs == 0) Expected m.at.pos rule.0 rule.1) in
    let counts = ports-many constants m.ins m.outs ports rule.2 in
    record {
      ins = sized.0;
      outs = sized.1;
      some_ins = total-some ports.ins sized.0 (omega (arith, counts.0, eqb-false (length m.ins) 0 there.0));
      some_outs = total-some ports.outs sized.1 (omega (arith, counts.1, eqb-false (length m.outs) 0 there.1));
    }

pub next-follows : (before : Before) (m : ModuleTree) (d : Defined) → AreSound before.modules → defined_in before m ≡ Ok d → MayFollow before.modules d
next-follows before m d sound e =
    let ports = given-taken (ports_in before.constants m) _ d e in
    let rescue = given-taken (rescue_in m.kind m.at.pos before.constants m.clauses) _ d ports.2 in
    let skeleton = given-taken (skeleton_of m.kind before m ports.0) _ d rescue.2 in
    let is : defined_as (info_of m rescue.0) ports.0 skeleton.0 ≡ d = cc (skeleton.2) in
    let good = ports-good before.constants m ports.0 ports.1 in
    let fits = skeleton-fits before sound.wiring.count sound.have (λ k inside. (sound.wiring.each k inside).ins.0) m ports.0 m.kind good.ins good.outs good.some_outs skeleton.0 skeleton.1 in
    subst (MayFollow before.modules) is
    (record {
      rescue = rescue-lawful m.kind m.at.pos before.constants m.clauses rescue.0 rescue.1;
      next = record {
        kind_is = fits.kind_is;
        ins = (good.some_ins, good.ins.few_words);
        outs = (good.some_outs, good.outs.few_words);
        workers = fits.workers;
        earlier = fits.earlier;
        form = fits.form;
        sequential = fits.sequential;
      };
      have = record { takes = refl; gives = refl };
    })

pub entry-sound : (checked : Checked) (is_ahead : List ℕ → Bool) (entry : EntryTree) (next : Checked) → AreSound checked.modules →
    checked_entry checked is_ahead entry ≡ Ok next → AreSound next.modules
entry-sound checked is_ahead (constant at value) next sound e =
    let name = given-taken (new_name checked at) _ next e in
    let same : checked.modules ≡ next.modules = modules-same checked _ _ (name.2) in
    subst AreSound same sound
entry-sound checked is_ahead (defined m) next sound e =
    let name = given-taken (new_name checked m.at) _ next e in
    let module' = given-taken (defined_in (before_in checked is_ahead) m) _ next name.2 in
    let seq = given-taken (body_in m.kind checked.constants (length checked.modules.infos) m) _ next module'.2 in
    let same : with_module checked.modules module'.0 ≡ next.modules = modules-same checked _ _ (seq.2) in
    subst AreSound same (sound-more checked.modules module'.0 sound (next-follows (before_in checked is_ahead) m module'.0 sound module'.1))

-- an entry adds one module at most
pub entry-adds : (checked : Checked) (is_ahead : List ℕ → Bool) (entry : EntryTree) (next : Checked) →
    checked_entry checked is_ahead entry ≡ Ok next → length next.modules.infos ≤ length checked.modules.infos + 1
entry-adds checked is_ahead (constant at value) next e =
    let name = given-taken (new_name checked at) _ next e in
    let same : checked.modules ≡ next.modules = modules-same checked _ _ (name.2) in
    let few : length checked.modules.infos ≤ length checked.modules.infos + 1 = omega arith in
    subst (λ (m : Modules). length m.infos ≤ length checked.modules.infos + 1) same few
entry-adds checked is_ahead (defined m) next e =
    let name = given-taken (new_name checked m.at) _ next e in
    let module' = given-taken (defined_in (before_in checked is_ahead) m) _ next name.2 in
    let seq = given-taken (body_in m.kind checked.constants (length checked.modules.infos) m) _ next module'.2 in
    let same : with_module checked.modules module'.0 ≡ next.modules = modules-same checked _ _ (seq.2) in
    let few : length (with_module checked.modules module'.0).infos ≤ length checked.modules.infos + 1 = omega (arith, length-append checked.modules.infos (module'.0.info ∷ [])) in
    subst (λ (m : Modules). length m.infos ≤ length checked.modules.infos + 1) same few

pub entries-sound : (checked : Checked) (entries : List EntryTree) (all : Checked) → AreSound checked.modules →
    checked_entries checked entries ≡ Ok all → AreSound all.modules
entries-sound checked [] all sound e =
    let same : checked.modules ≡ all.modules = modules-same checked _ _ (e) in subst AreSound same sound
entries-sound checked (entry ∷ entries) all sound e =
    let next = given-taken (checked_entry checked (defines (entry ∷ entries)) entry) _ all e in
    entries-sound next.0 entries all (entry-sound checked (defines (entry ∷ entries)) entry next.0 sound next.1) next.2

-- the modules of a whole program
pub program-callables : (entries : List EntryTree) (all : Checked) → checked_entries none_checked entries ≡ Ok all → AreCallables all.modules.infos all.modules.callables
program-callables entries all e = (entries-sound none_checked entries all none-sound e).wiring
