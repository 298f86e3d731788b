-- Every way that is open to a process of a typed net with its messages can be taken.
use Rattle.std.proofs.Common.{◌≡◌, ℕ, ◌+◌, ◌≤◌, List, [], ◌∷◌, ◌++◌, length, drop, refl, sym, ap, ◌∙◌, subst, arith, length-append, append_assoc}
use Rattle.p3l_skel.specs.declared.tree.Tree.{Tree}
use Rattle.p3l_ready.proofs.AtLemmas.{same_function}
use Rattle.p3l_firing.specs.declared.net.Net.{Net}
use Rattle.p3l_firing.specs.declared.token.Token.{Token}
use Rattle.p3l_firing.specs.Nodes.{Leaf}
use Rattle.p3l_firing.specs.State.{State}
use Rattle.p3l_firing.specs.Ways.{Sees}
use Rattle.p3l_spread_laws.specs.Laws.{IsTaken, IsWireTaken, EveryWireCanTake}
use Rattle.p3l_spread_laws.specs.Spread as spread
use Rattle.p3l_spread_laws.specs.Wire.{Distributed, spread_of}
use Rattle.p3l_spread_laws.proofs.Taking.{way_taken}

-- tokens taken of a ring with what is in flight behind it are tokens of the ring
parted : (ring flight taken kept : List Token) → ring ++ flight ≡ taken ++ kept → length taken ≤ length ring →
    (ring ≡ taken ++ drop (length taken) ring) × (drop (length taken) ring ++ flight ≡ kept)
parted ring flight [] kept e l = (refl, e)
parted [] flight (t ∷ ts) kept e l = absurd (omega arith)
parted (r ∷ rs) flight (t ∷ ts) kept e l =
    let first : r ≡ t = cc in
    let rest : rs ++ flight ≡ ts ++ kept = cc in
    let p = parted rs flight ts kept rest (omega arith) in
    (ap (λ z. z ∷ rs) first ∙ ap (λ z. t ∷ z) p.0, p.1)

module _ (tree : Tree) (leaf : Leaf) (net : Net) (w : Distributed) (t : State) (k : IsTaken tree leaf net (spread_of w) t) where
  module _ (c : ℕ) where
    x : spread.Shifts (spread_of w) k.to c
    x = k.fires.shifts c

    parts : (w.ring c ≡ x.taken ++ drop (length x.taken) (w.ring c)) × (drop (length x.taken) (w.ring c) ++ w.flight c ≡ x.kept)
    parts = parted (w.ring c) (w.flight c) x.taken x.kept x.before (omega (arith, x.seen))

  after : Distributed
  after = record {
    own = k.to.state.own;
    unsent = k.to.state.unsent;
    sent = k.to.state.sent;
    emitted = k.to.state.emitted;
    fired = w.fired + 1;
    ring = λ c. drop (length (x c).taken) (w.ring c);
    flight = λ c. w.flight c ++ (x c).given;
    credit = k.to.credit;
    back = λ c. w.back c + length (x c).taken;
  }

  after_tokens : (c : ℕ) → after.ring c ++ after.flight c ≡ k.to.state.tokens c
  unfolding after
  after_tokens c =
      sym (append_assoc (drop (length (x c).taken) (w.ring c)) (w.flight c) (x c).given)
      ∙ ap (λ z. z ++ (x c).given) (parts c).1 ∙ sym (x c).after

  after_state : (spread_of after).state ≡ k.to.state
  unfolding after
  after_state =
      let tokens : (λ c. after.ring c ++ after.flight c) ≡ k.to.state.tokens = same_function after_tokens in
      λ i. record {
        tokens = tokens i;
        own = k.to.state.own;
        unsent = k.to.state.unsent;
        sent = k.to.state.sent;
        emitted = k.to.state.emitted;
      }

  wire_taken : IsWireTaken tree leaf net w t
  unfolding after
  wire_taken = record {
    to = after;
    state = after_state ∙ k.state;
    fires = record {
      by = k.fires.by;
      way = subst (Sees tree leaf net (spread.view (spread_of w)) (spread_of w).state k.fires.by) (sym after_state) k.fires.way;
      passes = λ c. record {
        taken = (x c).taken;
        given = (x c).given;
        ring = (parts c).0;
        flight = refl;
        credit = (x c).credit;
        back = refl;
      };
      count = refl;
    };
  }

pub every_wire_can_take : EveryWireCanTake
every_wire_can_take tree leaf net typed w p t exact way =
    wire_taken tree leaf net w t
    (way_taken tree leaf net typed (spread_of w) p t
    (record {
      seen = λ c. let m = length-append (w.ring c) (w.flight c) in omega (arith, m);
      credit = λ c. let m = length-append (w.ring c) (w.flight c) in omega (arith, m, exact c);
    }) way)
