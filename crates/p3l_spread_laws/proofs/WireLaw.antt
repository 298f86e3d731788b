-- A net with its messages is a spread net: each of its steps is a step of that, and it is quiet where the messages are idle.
use Rattle.std.proofs.Common.{◌≡◌, ℕ, ℤ, zero, suc, ◌≤◌, ◌⊎◌, inl, inr, List, ◌++◌, length, sym, ap, ◌∙◌, arith, length-append, append_assoc}
use Rattle.p3l_skel.specs.declared.tree.Tree.{Tree}
use Rattle.p3l_ready.proofs.AtLemmas.{same_function}
use Rattle.p3l_firing.specs.declared.net.Net.{Net}
use Rattle.p3l_firing.specs.Nodes.{Leaf}
use Rattle.p3l_spread_laws.specs.Laws.{EveryDistributedRunIsSpread, IdleMeansQuiet, EveryLinkedDistributedRunMeansItsItems}
use Rattle.p3l_spread_laws.specs.Spread as spread
use Rattle.p3l_spread_laws.specs.Wire.{Distributed, spread_of, IsExact, Passes, Fires, Comes, Delivers, IsDistributedRun}
use Rattle.p3l_spread_laws.proofs.SpreadLaw.{linked_spread_means, delivered_quiet}

passes_exact : (net : Net) (w x : Distributed) → ((c : ℕ) → Passes w x c) → IsExact net w → IsExact net x
passes_exact net w x h e c =
    let p = h c in
    let r = ap length p.ring ∙ length-append p.taken (x.ring c) in
    let f = ap length p.flight ∙ length-append (w.flight c) p.given in
    omega (arith, r, f, p.credit, p.back, e c)

comes_exact : (net : Net) (w x : Distributed) → ((c : ℕ) → Comes w x c) → IsExact net w → IsExact net x
comes_exact net w x h e c =
    let p = h c in
    let r = ap length p.ring ∙ length-append (w.ring c) p.came in
    let f = ap length p.flight ∙ length-append p.came (x.flight c) in
    omega (arith, r, f, p.credit, p.back, e c)

fires_shift : (w x : Distributed) (c : ℕ) → Passes w x c → spread.Shifts (spread_of w) (spread_of x) c
fires_shift w x c p = record {
  taken = p.taken;
  kept = x.ring c ++ w.flight c;
  given = p.given;
  before = ap (λ z. z ++ w.flight c) p.ring ∙ append_assoc p.taken (x.ring c) (w.flight c);
  after = ap (λ z. x.ring c ++ z) p.flight ∙ sym (append_assoc (x.ring c) (w.flight c) p.given);
  seen = let r = ap length p.ring ∙ length-append p.taken (x.ring c) in omega (arith, r);
  credit = p.credit;
}

same_tokens : (w x : Distributed) (c : ℕ) → Comes w x c → x.ring c ++ x.flight c ≡ w.ring c ++ w.flight c
same_tokens w x c p =
    ap (λ z. z ++ x.flight c) p.ring ∙ append_assoc (w.ring c) p.came (x.flight c) ∙ ap (λ z. w.ring c ++ z) (sym p.flight)

delivers_learns : (net : Net) (w x : Distributed) → IsExact net w → Delivers w x → spread.Learns net (spread_of w) (spread_of x)
delivers_learns net w x e d =
    let tokens : (spread_of x).state.tokens ≡ (spread_of w).state.tokens = same_function (λ c. same_tokens w x c (d.comes c)) in
    record {
      state = λ i. record { tokens = tokens i; own = d.own i; unsent = d.unsent i; sent = d.sent i; emitted = d.emitted i };
      fired = d.fired;
      seen = λ c. let p = d.comes c in let r = ap length p.ring ∙ length-append (w.ring c) p.came in omega (arith, r);
      there = λ c.
          let p = d.comes c in
          let r = ap length p.ring ∙ length-append (w.ring c) p.came in
          let f = ap length p.flight ∙ length-append p.came (x.flight c) in
          let n = length-append (w.ring c) (w.flight c) in
          omega (arith, r, f, n);
      credit = λ c. let p = d.comes c in omega (arith, p.credit);
      room = λ c.
          let p = d.comes c in
          let n = length-append (w.ring c) (w.flight c) in
          omega (arith, p.credit, p.back, n, e c);
    }

step_exact : (tree : Tree) (leaf : Leaf) (net : Net) (w x : Distributed) → Fires tree leaf net w x ⊎ Delivers w x → IsExact net w →
    IsExact net x
step_exact tree leaf net w x step e =
    elim step [ inl f ↦ passes_exact net w x f.passes e | inr d ↦ comes_exact net w x d.comes e ]

step_spread : (tree : Tree) (leaf : Leaf) (net : Net) (w x : Distributed) → Fires tree leaf net w x ⊎ Delivers w x → IsExact net w →
    spread.Step tree leaf net (spread_of w) (spread_of x)
step_spread tree leaf net w x step e =
    elim step [
      | inl f ↦
          inl (record { by = f.by; way = f.way; shifts = λ c. fires_shift w x c (f.passes c); count = f.count })
      | inr d ↦ inr (delivers_learns net w x e d)
    ]

module _ (tree : Tree) (leaf : Leaf) (net : Net) (items : List (List ℤ)) (at : ℕ → Distributed) (n : ℕ) (r : IsDistributedRun tree leaf net items at n) where
  all_exact : (i : ℕ) → i ≤ n → IsExact net (at i)
  all_exact zero l = r.exact
  all_exact (suc i) l =
      step_exact tree leaf net (at i) (at (suc i)) (r.steps i (omega arith)) (all_exact i (omega arith))

  run_spread : spread.IsRun tree leaf net items (λ i. spread_of (at i)) n
  run_spread = record {
    begun = record {
      state = r.state;
      fired = r.fired;
      sound = record {
        seen = λ c. let m = length-append ((at 0).ring c) ((at 0).flight c) in omega (arith, m);
        credit = λ c. let m = length-append ((at 0).ring c) ((at 0).flight c) in omega (arith, m, r.exact c);
      };
    };
    steps = λ i l. step_spread tree leaf net (at i) (at (suc i)) (r.steps i l) (all_exact i (omega arith));
  }

pub distributed_spread : EveryDistributedRunIsSpread
distributed_spread tree leaf net items at n r = run_spread tree leaf net items at n r

-- an idle net is quiet
pub idle_quiet : IdleMeansQuiet
idle_quiet tree leaf net items at n r idle =
    delivered_quiet tree leaf net (spread_of (at n))
    (record {
      tokens = λ c.
          let m = length-append ((at n).ring c) ((at n).flight c) in
          let f = ap length (idle.flight c) in
          omega (arith, m, f);
      rooms = λ c.
          let m = length-append ((at n).ring c) ((at n).flight c) in
          let e = all_exact tree leaf net items at n r n (omega arith) c in
          omega (arith, m, e, idle.back c);
    })
    idle.none

pub linked_distributed_means : EveryLinkedDistributedRunMeansItsItems
linked_distributed_means units counts cap items at n linkable long r =
    linked_spread_means units counts cap items (λ i. spread_of (at i)) n linkable long
    (distributed_spread units.tree units.leaf _ items at n r)
