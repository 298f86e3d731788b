-- A state that fits under some widths also fits under the widths by which the net is typed, if both agree on its channels.
use Rattle.std.proofs.Common.{◌≡◌, ℕ, ◌≤◌, List, [], ◌∷◌, length, refl, sym, ap, subst, arith, inl, inr}
use Rattle.std.specs.List.{AllByRecursion}
use Rattle.std.proofs.lemmas.Bool.{cases_lt}
use Rattle.std.proofs.lemmas.List.{get_or_past}
use Rattle.p3l_skel.specs.declared.tree.Tree.{Tree}
use Rattle.p3l_firing.specs.declared.net.Chan.{Chan}
use Rattle.p3l_firing.specs.declared.net.Net.{Net}
use Rattle.p3l_firing.specs.declared.process.Proc.{Proc}
use Rattle.p3l_firing.specs.declared.process.ProcKind.{ProcKind}
use Rattle.p3l_firing.specs.declared.process.ProcKind.TheVariants as kinds
use Rattle.p3l_firing.specs.declared.token.Token.{Token}
use Rattle.p3l_firing.specs.Process.{Has, in_of, out_of}
use Rattle.p3l_firing.specs.State.{LocalState, State, chan_at, no_chan}
use Rattle.p3l_firing.specs.Typed.{FitsKind, FitsOwn, IsFitting, IsTyped}
use Rattle.p3l_firing.specs.Widths.{Carries, HasWidth, Widths}
use Rattle.p3l_firing.specs.declared.shot.Shot.{Shot}
use Rattle.p3l_net.specs.Machine.{state_of}
use Rattle.p3l_net.specs.Shot.{CanRestore, Fits, restored}
use Rattle.p3l_net.proofs.SoundLaw.{started_sound}
use Rattle.p3l_net.proofs.Standing.{reads_chan, standing, writes_chan}
use Rattle.p3l_fitting.specs.Restoring.{AgreeOn}

-- tokens of one width, where it is another's
wide_same : (v w : Widths) (c : ℕ) (xs : List Token) → Carries w c (v.words c) (v.tags c) →
    AllByRecursion (HasWidth (v.words c) (v.tags c)) xs → AllByRecursion (HasWidth (w.words c) (w.tags c)) xs
wide_same v w c xs same h =
    subst (λ t. AllByRecursion (HasWidth (w.words c) t) xs) (sym same.tags)
    (subst (λ a. AllByRecursion (HasWidth a (v.tags c)) xs) (sym same.words) h)

tagged_same : (v w : Widths) (a c : ℕ) (xs : List Token) → Carries w c (v.words c) (v.tags c) →
    AllByRecursion (HasWidth a (v.tags c)) xs → AllByRecursion (HasWidth a (w.tags c)) xs
tagged_same v w a c xs same h = subst (λ t. AllByRecursion (HasWidth a t) xs) (sym same.tags) h

only : (c : ℕ) (cs : List ℕ) → cs ≡ c ∷ [] → Has cs c
only c cs e = subst (λ z. Has z c) (sym e) (inl refl)

-- a process's own state fits under w as well, if both widths agree on its channels
module _ (tree : Tree) (v w : Widths) (q : Proc) (o : LocalState) (ins : (c : ℕ) → Has q.ins c → Carries w c (v.words c) (v.tags c))
    (outs : (c : ℕ) → Has q.outs c → Carries w c (v.words c) (v.tags c)) where
  own_same : (k : ProcKind) → FitsKind k tree w q → FitsOwn k tree v q o → FitsOwn k tree w q o
  own_same kinds.Source fit h = h
  own_same kinds.Sink fit h = h
  own_same kinds.Run fit h = h
  own_same kinds.Emit fit h = h
  own_same kinds.Collect fit h = h
  own_same kinds.Scatter fit h =
      record { held = wide_same v w (in_of q 0) o.held (ins (in_of q 0) (only (in_of q 0) q.ins fit.ins)) h.held; number = h.number }
  own_same kinds.Gather fit h =
      record { held = tagged_same v w _ (out_of q 0) o.held (outs (out_of q 0) (only (out_of q 0) q.outs fit.outs)) h.held; few = h.few }
  own_same kinds.Split fit h =
      record { held = wide_same v w (in_of q 0) o.held (ins (in_of q 0) (only (in_of q 0) q.ins fit.ins)) h.held; number = h.number }
  own_same kinds.FoldGather fit h =
      record { held = tagged_same v w _ (out_of q 0) o.held (outs (out_of q 0) (only (out_of q 0) q.outs fit.outs)) h.held; few = h.few }
  own_same kinds.Join fit h = h
  own_same kinds.Head fit h = h
  own_same kinds.Tail fit h = wide_same v w (in_of q 0) o.held (ins (in_of q 0) (only (in_of q 0) q.ins fit.ins)) h

none_wide : (a t : ℕ) (xs : List Token) → length xs ≤ 0 → AllByRecursion (HasWidth a t) xs
none_wide a t [] h = tt
none_wide a t (x ∷ xs) h = absurd (omega (arith, h))

module _ (tree : Tree) (net : Net) (typed : IsTyped tree net) (v : Widths) (shot : Shot)
    (agree : AgreeOn (length net.chans) v typed.widths) where
  pub state_same : (s : State) → IsFitting tree net v s → IsFitting tree net typed.widths s
  state_same s fits = record {
    rooms = fits.rooms;
    tokens = λ c. elim (cases_lt c (length net.chans)) [
      | inl there ↦ wide_same v typed.widths c (s.tokens c) (agree c there) (fits.tokens c)
      | inr past ↦
          let none : chan_at net c ≡ no_chan = get_or_past net.chans c no_chan (omega arith) in
          let room = fits.rooms c in
          none_wide _ _ (s.tokens c) (omega (arith, room, ap (λ (z : Chan). z.cap) none))
    ];
    owns = λ p q e.
        let stands = standing (started_sound tree net typed) e in
        own_same tree v typed.widths q (s.own p) (λ c has. agree c (reads_chan stands c has))
        (λ c has. agree c (writes_chan stands c has)) q.kind (typed.processes p q e) (fits.owns p q e);
    unsent = fits.unsent;
  }

  pub can_restore : Fits tree net v shot → CanRestore tree net shot
  can_restore fits = record {
    typed = typed;
    fits = record {
      chans = fits.chans;
      owns = fits.owns;
      state = state_same (state_of (restored tree net shot) []) fits.state;
      countable = fits.countable;
    };
  }
