-- Facts about modules stay true when one more module is added.
use Rattle.std.proofs.Common.{◌≡◌, ℕ, zero, suc, ◌+◌, ◌<◌, ◌≤◌, IsTrue, IfSome, List, [], ◌∷◌, ◌++◌, length, slice_index, refl, ap, sym, ◌∙◌, subst, arith, length-append, ⊎_elim}
use Rattle.std.specs.List.{AllByRecursion}
use Rattle.std.proofs.Math.Seq.{get_or-append_seam}
use Rattle.std.proofs.lemmas.List.{get_or_append_left}
use Rattle.std.proofs.lemmas.List.Elements.{All-from_recursion, recursion_from_All}
use Rattle.std.proofs.lemmas.Bool.{cases_lt}
use Rattle.p3l_skel.specs.declared.tree.Form.{Form}
use Rattle.p3l_skel.specs.declared.tree.Form.TheVariants.{Seq, Comp, Pipe, Farm, Map, Reduce, Loop}
use Rattle.p3l_skel.specs.declared.tree.ModuleInfo.{ModuleInfo}
use Rattle.p3l_skel.specs.declared.tree.ModuleKind.{ModuleKind}
use Rattle.p3l_skel.specs.Tree.{sequential_row}
use Rattle.p3l_skel.specs.Counts.{IsCountInRange, workers_of}
use Rattle.p3l_skel.specs.Lawful.{IsSize, HasKind, HasLawfulRescue, kind_of}
use Rattle.p3l_check.specs.declared.callables.Callable.{Callable}
use Rattle.p3l_check.specs.Wiring.{no_module, module_at, TakesAndGives, IsCallChain, IsSequentialModule, IsCallableMap, IsCallableReduce, IsCallableLoop, IsCallableForm, IsCallableModule}
use Rattle.p3l_check.specs.Callables.{AreCallables}

-- a module that may come after others: its calls are of them, and fit it
pub record IsNext (callables : List Callable) (kind : ModuleKind) (m : Callable) : Type 0 where
  pub kind_is : kind ≡ kind_of m.form
  pub ins : IsSize m.ins
  pub outs : IsSize m.outs
  pub workers : IfSome (workers_of m.form) (IsCountInRange m.form)
  pub earlier : AllByRecursion (λ c. c < length callables) m.calls
  pub form : IsCallableForm callables m.form m.ins m.outs m.calls
  pub sequential : m.sequential ≡ sequential_row m.form (module_at callables (slice_index m.calls 0)).sequential

module _ (callables : List Callable) (m : Callable) where
  pub module-kept : (c : ℕ) → c < length callables → module_at (callables ++ m ∷ []) c ≡ module_at callables c
  module-kept c h = get_or_append_left callables (m ∷ []) no_module c h

  pub module-last : module_at (callables ++ m ∷ []) (length callables) ≡ m
  module-last = get_or-append_seam callables m [] no_module

  chain-kept : (cs : List ℕ) (ins outs : ℕ) → AllByRecursion (λ c. c < length callables) cs → IsCallChain callables ins outs cs → IsCallChain (callables ++ m ∷ []) ins outs cs
  chain-kept [] ins outs all chain = chain
  chain-kept (c ∷ cs) ins outs all chain = (
    ap (λ (w : Callable). w.ins) (module-kept c all.0) ∙ chain.0,
    subst (λ (w : Callable). IsCallChain (callables ++ m ∷ []) w.outs outs cs) (sym (module-kept c all.0)) (chain-kept cs (module_at callables c).outs outs all.1 chain.1),
  )

  sequentials-kept : (cs : List ℕ) → AllByRecursion (λ c. c < length callables) cs → AllByRecursion (IsSequentialModule callables) cs → AllByRecursion (IsSequentialModule (callables ++ m ∷ [])) cs
  sequentials-kept [] all seqs = tt
  sequentials-kept (c ∷ cs) all seqs =
      (subst (λ (w : Callable). IsTrue w.sequential) (sym (module-kept c all.0)) seqs.0, sequentials-kept cs all.1 seqs.1)

  form-kept : (form : Form) (ins outs : ℕ) (cs : List ℕ) → AllByRecursion (λ c. c < length callables) cs → IsCallableForm callables form ins outs cs → IsCallableForm (callables ++ m ∷ []) form ins outs cs
  form-kept Seq ins outs cs all w = w
  form-kept Comp ins outs cs all w = (
    w.0,
    chain-kept cs ins outs all w.1,
    All-from_recursion (IsSequentialModule (callables ++ m ∷ [])) cs (sequentials-kept cs all (recursion_from_All (IsSequentialModule callables) cs w.2)),
  )
  form-kept Pipe ins outs cs all w = (w.0, chain-kept cs ins outs all w.1)
  form-kept (Farm n) ins outs [] all w = w
  form-kept (Farm n) ins outs (c ∷ []) all w = subst (λ (x : Callable). TakesAndGives x ins outs) (sym (module-kept c all.0)) w
  form-kept (Farm n) ins outs (c ∷ (d ∷ cs)) all w = w
  form-kept (Map n cut) ins outs [] all w = w
  form-kept (Map n cut) ins outs (c ∷ []) all w = subst (IsCallableMap cut ins outs) (sym (module-kept c all.0)) w
  form-kept (Map n cut) ins outs (c ∷ (d ∷ cs)) all w = w
  form-kept (Reduce n len elem) ins outs [] all w = w
  form-kept (Reduce n len elem) ins outs (c ∷ []) all w = subst (IsCallableReduce len elem ins outs) (sym (module-kept c all.0)) w
  form-kept (Reduce n len elem) ins outs (c ∷ (d ∷ cs)) all w = w
  form-kept (Loop turns tokens) ins outs [] all w = w
  form-kept (Loop turns tokens) ins outs (c ∷ []) all w = w
  form-kept (Loop turns tokens) ins outs (c ∷ (d ∷ [])) all w =
      subst (λ x. IsCallableLoop turns tokens ins outs x (module_at (callables ++ m ∷ []) d)) (sym (module-kept c all.0))
      (subst (λ x. IsCallableLoop turns tokens ins outs (module_at callables c) x) (sym (module-kept d all.1.0)) w)
  form-kept (Loop turns tokens) ins outs (c ∷ (d ∷ (e ∷ cs))) all w = w

  -- a module's being sequential depends on its first callee alone, if at all
  sequential-kept : (form : Form) (ins outs : ℕ) (cs : List ℕ) → AllByRecursion (λ c. c < length callables) cs → IsCallableForm callables form ins outs cs
      → sequential_row form (module_at callables (slice_index cs 0)).sequential ≡ sequential_row form (module_at (callables ++ m ∷ []) (slice_index cs 0)).sequential
  sequential-kept Seq ins outs cs all w = refl
  sequential-kept Comp ins outs cs all w = refl
  sequential-kept Pipe ins outs cs all w = refl
  sequential-kept (Farm n) ins outs cs all w = refl
  sequential-kept (Map n cut) ins outs [] all w = absurd w
  sequential-kept (Map n cut) ins outs (c ∷ cs) all w = ap (λ (x : Callable). x.sequential) (sym (module-kept c all.0))
  sequential-kept (Reduce n len elem) ins outs [] all w = absurd w
  sequential-kept (Reduce n len elem) ins outs (c ∷ cs) all w = ap (λ (x : Callable). x.sequential) (sym (module-kept c all.0))
  sequential-kept (Loop turns tokens) ins outs cs all w = refl

below_weaker : (cs : List ℕ) (a b : ℕ) → a ≤ b → AllByRecursion (λ c. c < a) cs → AllByRecursion (λ c. c < b) cs
below_weaker [] a b h all = tt
below_weaker (c ∷ cs) a b h all = let less : c < a = all.0 in (omega arith, below_weaker cs a b h all.1)

kind-kept : (infos : List ModuleInfo) (info : ModuleInfo) (k : ℕ) (kind : ModuleKind) → HasKind infos k kind → HasKind (infos ++ info ∷ []) k kind
kind-kept [] info k kind h = absurd h
kind-kept (i ∷ infos) info zero kind h = h
kind-kept (i ∷ infos) info (suc k) kind h = kind-kept infos info k kind h

kind-last : (infos : List ModuleInfo) (info : ModuleInfo) (kind : ModuleKind) → info.kind ≡ kind → HasKind (infos ++ info ∷ []) (length infos) kind
kind-last [] info kind h = h
kind-last (i ∷ infos) info kind h = kind-last infos info kind h

rescues-kept : (infos : List ModuleInfo) (info : ModuleInfo) → AllByRecursion HasLawfulRescue infos → HasLawfulRescue info → AllByRecursion HasLawfulRescue (infos ++ info ∷ [])
rescues-kept [] info all h = (h, tt)
rescues-kept (i ∷ infos) info all h = (all.0, rescues-kept infos info all.1 h)

module _ (infos : List ModuleInfo) (callables : List Callable) (info : ModuleInfo) (m : Callable) where
  old_kept : (k : ℕ) → k < length callables → IsCallableModule infos callables k (module_at callables k) → IsCallableModule (infos ++ info ∷ []) (callables ++ m ∷ []) k (module_at callables k)
  old_kept k inside w =
      let old : Callable = module_at callables k in
      let earlier : AllByRecursion (λ c. c < k) old.calls = recursion_from_All (λ c. c < k) old.calls w.earlier in
      let there : AllByRecursion (λ c. c < length callables) old.calls = below_weaker old.calls k (length callables) (omega arith) earlier in
      record {
        kind = kind-kept infos info k (kind_of old.form) w.kind;
        ins = w.ins;
        outs = w.outs;
        workers = w.workers;
        earlier = w.earlier;
        form = form-kept callables m old.form old.ins old.outs old.calls there w.form;
        sequential = w.sequential ∙ sequential-kept callables m old.form old.ins old.outs old.calls there w.form;
      }

  new_kept : length callables ≡ length infos → IsNext callables info.kind m → IsCallableModule (infos ++ info ∷ []) (callables ++ m ∷ []) (length callables) m
  new_kept same next = record {
    kind = subst (λ k. HasKind (infos ++ info ∷ []) k (kind_of m.form)) (sym same) (kind-last infos info (kind_of m.form) next.kind_is);
    ins = next.ins;
    outs = next.outs;
    workers = next.workers;
    earlier = All-from_recursion (λ c. c < length callables) m.calls next.earlier;
    form = form-kept callables m m.form m.ins m.outs m.calls next.earlier next.form;
    sequential = next.sequential ∙ sequential-kept callables m m.form m.ins m.outs m.calls next.earlier next.form;
  }

  -- modules and one that may come after them
  pub callables-more : AreCallables infos callables → HasLawfulRescue info → IsNext callables info.kind m → AreCallables (infos ++ info ∷ []) (callables ++ m ∷ [])
  callables-more wiring rescue next = record {
    rescues = rescues-kept infos info wiring.rescues rescue;
    count = length-append callables (m ∷ []) ∙ (ap (λ n. n + 1) wiring.count ∙ sym (length-append infos (info ∷ [])));
    each = λ k inside. ⊎_elim
        (λ h. subst (IsCallableModule (infos ++ info ∷ []) (callables ++ m ∷ []) k) (sym (module-kept callables m k h)) (old_kept k h (wiring.each k h)))
        (λ h. let last : length callables ≡ k = omega (arith, simp length-append at inside) in
        subst (λ n. IsCallableModule (infos ++ info ∷ []) (callables ++ m ∷ []) n (module_at (callables ++ m ∷ []) n)) last
        (subst (IsCallableModule (infos ++ info ∷ []) (callables ++ m ∷ []) (length callables)) (sym (module-last callables m)) (new_kept wiring.count next)))
        (cases_lt k (length callables));
  }

pub none-callables : AreCallables [] []
none-callables = record { rescues = tt; count = refl; each = λ k inside. absurd (omega (arith, inside)) }
