-- The turns of a loop: what the ring makes of an outcome is what the language says.
use Rattle.std.proofs.Common.{◌≡◌, ℕ, ℤ, zero, suc, ◌-◌, ◌<◌, Bool, true, false, cond, nat_lt, if◌then◌else◌, List, length, refl, sym, ap, ◌∙◌, subst, arith, lt-ltb}
use Rattle.p3l_base.specs.declared.outcome.Outcome.{Outcome}
use Rattle.p3l_base.specs.declared.outcome.Outcome.TheVariants.{Value, Trapped}
use Rattle.p3l_base.specs.declared.outcome.Trap.{Trap}
use Rattle.p3l_skel.specs.declared.tree.Form.TheVariants as form
use Rattle.p3l_skel.specs.Tree.{node_at, part_at, HasLength, GivesOuts}
use Rattle.p3l_skel.specs.Item.{item, on_value, is_done, turned, turns_spent}
use Rattle.p3l_skel.specs.Lawful.{IsLawfulTree}
use Rattle.p3l_firing.specs.Nodes.{test_of, spent_of, turns_of, most_turns}
use Rattle.p3l_firing.specs.kinds.Tail.{Turn.Held, Turn.Again, turn_of, by_test}
use Rattle.p3l_firing.proofs.LawfulForms.{loop_parts}
use Rattle.p3l_template.specs.Units.{Units, outcome_at}
use Rattle.p3l_loop.specs.Loop.{Laps, ending, after, rounds, turns}
use Rattle.p3l_loop.specs.laws.ViewLaw.{rounds_turns}
use Rattle.p3l_link.specs.Means.{Means}
use Rattle.p3l_link.proofs.NodeMeaning.{item_at, outcome-keeps}

-- one turn by the words of the condition
answered : (answer w : List ℤ) (spent next again : Outcome) (more : Bool) (done : Bool) → (more ≡ true → next ≡ again) →
    (more ≡ false → spent ≡ again) →
    ending (cond done (Held (Value w)) (cond more Again (Held spent))) next ≡ (if done then Value w else again)
unfolding ending
answered answer w spent next again more true goes ends = refl
answered answer w spent next again true false goes ends = goes refl
answered answer w spent next again false false goes ends = ends refl

-- one turn by the outcome of the condition on the words w
tested : (c : Outcome) (w : List ℤ) (spent next again : Outcome) (more : Bool) → (more ≡ true → next ≡ again) →
    (more ≡ false → spent ≡ again) →
    ending (by_test c (Value w) spent more) next ≡ on_value (λ answer. if is_done answer then Value w else again) c
unfolding ending by_test
tested (Trapped trap) w spent next again more goes ends = refl
tested (Value answer) w spent next again more goes ends = answered answer w spent next again more (is_done answer) goes ends

-- one turn by the outcome of the body
turn_is : (test : Outcome → Outcome) (condition : List ℤ → Outcome) (n : ℕ) (b : Outcome) (spent next : Outcome)
    (again : List ℤ → Outcome) (more : Bool) →
    ((w : List ℤ) → length w ≡ n → test (Value w) ≡ condition w) → HasLength n b →
    ((w : List ℤ) → b ≡ Value w → more ≡ true → next ≡ again w) → ((w : List ℤ) → more ≡ false → spent ≡ again w) →
    ending (turn_of test spent more b) next
    ≡ on_value (λ result. on_value (λ answer. if is_done answer then Value result else again result) (condition result)) b
unfolding ending turn_of
turn_is test condition n (Trapped trap) spent next again more same long goes ends = refl
turn_is test condition n (Value w) spent next again more same long goes ends =
    ap (λ c. ending (by_test c (Value w) spent more) next) (same w long)
    ∙ tested (condition w) w spent next (again w) more (goes w refl) (ends w)

-- all turns, where a body keeps the number of words
module _ (l : Laps) (body condition : List ℤ → Outcome) (n : ℕ)
    (bodies : (o : Outcome) → HasLength n o → l.body o ≡ on_value body o)
    (keeps : (o : Outcome) → HasLength n o → HasLength n (on_value body o))
    (tests : (w : List ℤ) → length w ≡ n → l.test (Value w) ≡ condition w) where
  turns_are : (t : ℕ) (words : List ℤ) → length words ≡ n →
      turns l (suc t) (Value words) ≡ turned body condition l.spent (suc t) words
  unfolding turns
  turns_are zero words long =
      let b = bodies (Value words) long in
      ap (λ o. ending (turn_of l.test l.spent (nat_lt 0 0) o) o) b
      ∙ turn_is l.test condition n (body words) l.spent (body words) (λ w. l.spent) false tests (keeps (Value words) long)
      (λ w e h. cc) (λ w h. refl)
  turns_are (suc t) words long =
      let b = bodies (Value words) long in
      ap (λ o. ending (turn_of l.test l.spent (nat_lt 0 (suc t)) o) (turns l (suc t) o)) b
      ∙ turn_is l.test condition n (body words) l.spent (turns l (suc t) (body words))
      (turned body condition l.spent (suc t)) (nat_lt 0 (suc t)) tests (keeps (Value words) long)
      (λ w e h. ap (turns l (suc t)) e ∙ turns_are t w (subst (HasLength n) e (keeps (Value words) long)))
      (λ w h. let e : nat_lt 0 (suc t) ≡ true = lt-ltb 0 (suc t) (omega arith) in cc)

after_trap : (l : Laps) (k : ℕ) (trap : Trap) → after l k (Trapped trap) ≡ Trapped trap
unfolding after ending turn_of
after_trap l zero trap = refl
after_trap l (suc k) trap = refl

module _ (units : Units) (lawful : IsLawfulTree units.tree) (gives : GivesOuts units.tree units.leaf) (node : ℕ)
    (inside : node < length units.tree.nodes) where
  -- the laps of a node round a body that means f
  abbrev laps : (Outcome → Outcome) → Laps
  laps f =
      record { body = f; test = test_of units.tree units.leaf node; spent = spent_of units.tree node; turns = turns_of units.tree node }

  module _ {most tokens : ℕ} (f : Outcome → Outcome) (is : (node_at units.tree node).form ≡ form.Loop most tokens)
      (means : Means units (part_at units.tree node 0) f) where
    most_is : turns_of units.tree node ≡ most
    unfolding turns_of
    most_is = ap most_turns is

    value_goes : (words : List ℤ) → length words ≡ (node_at units.tree node).ins →
        rounds (laps f) (Value words) ≡ outcome_at units node (Value words)
    unfolding test_of spent_of
    value_goes words long =
        let loop = loop_parts units.tree lawful node inside is in
        let n : ℕ = (node_at units.tree node).ins in
        let body : ℕ = part_at units.tree node 0 in
        let some = loop.limits.some_turns in
        let most_suc : most ≡ suc (most - 1) = omega arith in
        let takes = loop.parts.turned.takes in
        let gives_back : (node_at units.tree body).outs ≡ n = loop.parts.turned.gives ∙ sym loop.parts.same_words in
        rounds_turns (laps f) (Value words) (omega (arith, most_is, some))
        ∙ ap (λ k. turns (laps f) k (Value words)) (most_is ∙ most_suc)
        ∙ turns_are (laps f) (item units.tree units.leaf body) (item units.tree units.leaf (part_at units.tree node 1)) n
        (λ o h. means.same o (subst (λ k. HasLength k o) (sym takes) h))
        (λ o h. subst (λ k. HasLength k (outcome_at units body o)) gives_back
        (outcome-keeps units lawful body loop.parts.turned.in_tree gives o (subst (λ k. HasLength k o) (sym takes) h)))
        (λ w h. refl) (most - 1) words long
        ∙ ap (λ k. turned (item units.tree units.leaf body) (item units.tree units.leaf (part_at units.tree node 1))
        (turns_spent (node_at units.tree node).module) k words) (sym most_suc)
        ∙ sym (item_at units lawful node inside (form.Loop most tokens) words is)

    trap_goes : (trap : Trap) → rounds (laps f) (Trapped trap) ≡ Trapped trap
    unfolding rounds
    trap_goes trap =
        ap (after (laps f) (turns_of units.tree node - 1)) (means.same (Trapped trap) tt)
        ∙ after_trap (laps f) (turns_of units.tree node - 1) trap

    goes : (o : Outcome) → HasLength (node_at units.tree node).ins o → rounds (laps f) o ≡ outcome_at units node o
    goes (Trapped trap) long = trap_goes trap
    goes (Value words) long = value_goes words long

    -- a loop goes round as often as the language says
    pub loop_means : Means units node (rounds (laps f))
    loop_means = record { same = goes }
