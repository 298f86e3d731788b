-- The turns that loops allow, and the standard costs.
use Rattle.std.proofs.Common.{◌≡◌, ℕ, zero, suc, ◌+◌, ◌<◌, ◌≤◌, ◌==◌, true, false, List, [], ◌∷◌, drop, get_or, length, map, refl, arith, add-one, sym, ◌∙◌, ap, inl, inr, Some, Option}
use Rattle.std.specs.Prelude.{unwrap_or, slice_index, slice_get, IsSomeAnd}
use Rattle.std.specs.List.{All, range_with_len}
use Rattle.std.proofs.Math.Seq.{drop-cons}
use Rattle.std.proofs.lemmas.Bool.{cases_eq}
use Rattle.std.proofs.lemmas.Bool.Decides.{nat_tests}
use Rattle.std.proofs.lemmas.List.{length-map}
use Rattle.std.proofs.lemmas.List.Elements.{All-head, All-tail, All-map}
use Rattle.std.proofs.lemmas.List.FromFn.{length-map-range_with_len, get_or-map-range_with_len}
use Rattle.p3l_skel.specs.declared.tree.Form.{Form}
use Rattle.p3l_skel.specs.declared.tree.Form.TheVariants.{Seq, Comp, Pipe, Farm, Map, Reduce, Loop}
use Rattle.p3l_skel.specs.declared.tree.ModuleInfo.{ModuleInfo}
use Rattle.p3l_skel.specs.declared.tree.ModuleKind.{ModuleKind}
use Rattle.p3l_skel.specs.declared.tree.ModuleKind.TheVariants as kind
use Rattle.p3l_skel.specs.declared.tree.Node.{Node}
use Rattle.p3l_skel.specs.declared.tree.Tree.{Tree}
use Rattle.p3l_skel.specs.Lawful.{HasTwoParts, IsLawfulLoop, IsLawfulForm, IsLawfulTree}
use Rattle.p3l_cost.specs.Costs.{AreCostsOf, IsTurns, IsWithinTurns, most_cost}
use Rattle.p3l_cost.specs.Standard.{standard_costs, standard_ticks, full_turns, turns_or, turns_in, turns_of}

pub turns_or-step : (other : ℕ) (nodes : List Node) (i home : ℕ) (d : Node) → i < length nodes → turns_or other (drop i nodes) home ≡ unwrap_or (turns_in (get_or nodes i d) home) (turns_or other (drop (i + 1) nodes) home)
turns_or-step other nodes i home d inside = rw (add-one, drop-cons nodes i d inside) refl

-- the turns from a node on, by what the node itself allows
pub turns_or-at : (other : ℕ) (nodes : List Node) (i home : ℕ) (node : Node) (o : Option ℕ) → i < length nodes → turns_or other nodes home ≡ turns_or other (drop i nodes) home → node ≡ get_or nodes i node → o ≡ turns_in node home → turns_or other nodes home ≡ unwrap_or o (turns_or other (drop (i + 1) nodes) home)
turns_or-at other nodes i home node o inside so_far here is =
    let rest = turns_or other (drop (i + 1) nodes) home in
    so_far ∙ turns_or-step other nodes i home node inside
    ∙ sym (ap (λ (n : Node). unwrap_or (turns_in n home) rest) here)
    ∙ sym (ap (λ (p : Option ℕ). unwrap_or p rest) is)

-- the turns of a node, where they are P, and those of the others
or_else : (P : ℕ → Type 0) (node : Node) (home other : ℕ) → ((t : ℕ) → node.module ≡ home → turns_of node.form ≡ Some t → P t) → P other → P (unwrap_or (turns_in node home) other)
or_else P node home other own rest =
    elim (cases_eq node.module home) [
      | inl same ↦ let test : (node.module == home) ≡ true = search (arith, nat_tests) in
          rw test (of_form node.form (λ t e. own t same e))
      | inr apart ↦ let test : (node.module == home) ≡ false = search (arith, nat_tests) in rw test rest
    ]
  where
    of_form : (form : Form) → ((t : ℕ) → turns_of form ≡ Some t → P t) → P (unwrap_or (turns_of form) other)
    of_form Seq h = rest
    of_form Comp h = rest
    of_form Pipe h = rest
    of_form (Farm w) h = rest
    of_form (Map w cut) h = rest
    of_form (Reduce w len elem) h = rest
    of_form (Loop turns tokens) h = h turns refl

-- a property of the other number and of the turns of each loop of the module holds of its turns
turns_or-are : (P : ℕ → Type 0) (other home : ℕ) → P other → (nodes : List Node) → All (λ (n : Node). (t : ℕ) → n.module ≡ home → turns_of n.form ≡ Some t → P t) nodes → P (turns_or other nodes home)
turns_or-are P other home own [] all = own
turns_or-are P other home own (node ∷ nodes) all =
    let each = λ (n : Node). (t : ℕ) → n.module ≡ home → turns_of n.form ≡ Some t → P t in
    or_else P node home (turns_or other nodes home) (All-head each node nodes all) (turns_or-are P other home own nodes (All-tail each node nodes all))

-- `turns_or` is at most t, if a node is a loop of the module, and none of its loops allows more than t turns
turns_or-found : (other home t : ℕ) (nodes : List Node) (k : ℕ) (d : Node) → k < length nodes → (get_or nodes k d).module ≡ home → turns_of (get_or nodes k d).form ≡ Some t → All (λ (n : Node). (u : ℕ) → n.module ≡ home → turns_of n.form ≡ Some u → u ≤ t) nodes → turns_or other nodes home ≤ t
turns_or-found other home t [] k d inside same form all = absurd (omega (arith, inside))
turns_or-found other home t (node ∷ nodes) zero d inside same form all =
    let test : (node.module == home) ≡ true = search (arith, nat_tests, same) in rw (test, form) (omega arith)
turns_or-found other home t (node ∷ nodes) (suc k) d inside same form all =
    let each = λ (n : Node). (u : ℕ) → n.module ≡ home → turns_of n.form ≡ Some u → u ≤ t in
    or_else (λ n. n ≤ t) node home (turns_or other nodes home) (All-head each node nodes all)
    (turns_or-found other home t nodes k d (omega (arith, inside)) same form (All-tail each node nodes all))

loop_limits : (tree : Tree) (form : Form) (ins outs : ℕ) (parts : List ℕ) (t : ℕ) → IsLawfulForm tree form ins outs parts → turns_of form ≡ Some t → (1 ≤ t) × (t ≤ 65536)
loop_limits tree Seq ins outs parts t lawful e = cc
loop_limits tree Comp ins outs parts t lawful e = cc
loop_limits tree Pipe ins outs parts t lawful e = cc
loop_limits tree (Farm w) ins outs parts t lawful e = cc
loop_limits tree (Map w cut) ins outs parts t lawful e = cc
loop_limits tree (Reduce w len elem) ins outs parts t lawful e = cc
loop_limits tree (Loop turns tokens) ins outs parts t lawful e = let same : turns ≡ t = cc in rw (← same) (limits parts lawful)
  where
    limits : (ps : List ℕ) → HasTwoParts (IsLawfulLoop tree turns tokens ins outs) ps → (1 ≤ turns) × (turns ≤ 65536)
    limits [] h = absurd h
    limits (p ∷ []) h = absurd h
    limits (p ∷ (q ∷ [])) h = (h.limits.some_turns, h.limits.few_turns)
    limits (p ∷ (q ∷ (r ∷ ps))) h = absurd h

pub within-form : (form : Form) (n : ℕ) → ((t : ℕ) → turns_of form ≡ Some t → n ≤ t) → IsWithinTurns form n
within-form Seq n h = tt
within-form Comp n h = tt
within-form Pipe n h = tt
within-form (Farm w) n h = tt
within-form (Map w cut) n h = tt
within-form (Reduce w len elem) n h = tt
within-form (Loop turns tokens) n h = h turns refl

few_ticks : (kind : ModuleKind) → standard_ticks kind ≤ most_cost
few_ticks kind.Seq = omega arith
few_ticks kind.Comp = omega arith
few_ticks kind.Pipe = omega arith
few_ticks kind.Farm = omega arith
few_ticks kind.Map = omega arith
few_ticks kind.Reduce = omega arith
few_ticks kind.Loop = omega arith

some_inside : (modules : List ModuleInfo) (i : ℕ) (P : ModuleInfo → Type 0) → IsSomeAnd (slice_get modules i) P → i < length modules
some_inside [] i P h = absurd h
some_inside (m ∷ ms) zero P h = omega arith
some_inside (m ∷ ms) (suc i) P h = let rest = some_inside ms i P h in omega arith

module _ (tree : Tree) (lawful : IsLawfulTree tree) where
  pub limits_at : (k : ℕ) (d : Node) → k < length tree.nodes → (t : ℕ) → turns_of (get_or tree.nodes k d).form ≡ Some t → (1 ≤ t) × (t ≤ 65536)
  limits_at k d inside t e = loop_limits tree (get_or tree.nodes k d).form _ _ _ t (lawful.nodes k d inside).form e

  pub turns_lawful : (other home : ℕ) → IsTurns other → IsTurns (turns_or other tree.nodes home)
  turns_lawful other home own =
      turns_or-are IsTurns other home own tree.nodes
      (λ k d inside t same e. let l = limits_at k d inside t e in (l.0, omega (arith, l.1)))

  -- no loop of the module of a loop allows more turns than this one
  agreeing : (k : ℕ) (d : Node) → k < length tree.nodes → (t : ℕ) → turns_of (get_or tree.nodes k d).form ≡ Some t → All (λ (n : Node). (u : ℕ) → n.module ≡ (get_or tree.nodes k d).module → turns_of n.form ≡ Some u → u ≤ t) tree.nodes
  agreeing k d inside t e =
      λ j b there u same f.
      let agreed = lawful.agree j b there k d inside same in
      let forms : turns_of (get_or tree.nodes j b).form ≡ turns_of (get_or tree.nodes k d).form = ap turns_of agreed.form in
      let one : Some u ≡ Some t = sym f ∙ forms ∙ e in
      let equal : u ≡ t = cc in omega arith

  pub turns_within : (other k : ℕ) (d : Node) → k < length tree.nodes → (t : ℕ) → turns_of (get_or tree.nodes k d).form ≡ Some t → turns_or other tree.nodes (get_or tree.nodes k d).module ≤ t
  turns_within other k d inside t e = turns_or-found other (get_or tree.nodes k d).module t tree.nodes k d inside refl e (agreeing k d inside t e)

  pub home_inside : (k : ℕ) (d : Node) → k < length tree.nodes → (get_or tree.nodes k d).module < length tree.modules
  home_inside k d inside = some_inside tree.modules _ _ (lawful.nodes k d inside).kind

  pub standard_lawful : AreCostsOf tree (standard_costs tree)
  standard_lawful = record {
    setup = omega arith;
    word = omega arith;
    ticks_each = length-map _ _;
    ticks = All-map (λ n. n ≤ most_cost) (λ (m : ModuleInfo). standard_ticks m.kind) tree.modules (λ k d inside. few_ticks (get_or tree.modules k d).kind);
    turns_each = length-map-range_with_len (full_turns tree.nodes) 0 (length tree.modules);
    turns = All-map IsTurns (full_turns tree.nodes) (range_with_len 0 (length tree.modules)) (λ k d inside. turns_lawful 1 (get_or (range_with_len 0 (length tree.modules)) k d) (omega arith, omega arith));
    within = λ k d inside.
        let node = get_or tree.nodes k d in
        let same : slice_index (map (full_turns tree.nodes) (range_with_len 0 (length tree.modules))) node.module ≡ full_turns tree.nodes node.module =
        get_or-map-range_with_len (full_turns tree.nodes) 0 (length tree.modules) node.module node.module 0 (home_inside k d inside) (omega arith) in
        within-form node.form _ (λ t e. rw same (turns_within 1 k d inside t e));
  }
