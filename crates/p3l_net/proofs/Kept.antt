-- Invariants of a machine after a step.
use Rattle.std.proofs.Common.{◌≡◌, ℕ, ◌<◌, Bool, List, length, Option, sym, ap, ◌∙◌, subst}
use Rattle.std.specs.List.{AllByRecursion}
use Rattle.std.proofs.lemmas.Bool.{and_parts}
use Rattle.p3l_base.specs.declared.outcome.Outcome.{Outcome}
use Rattle.p3l_skel.specs.declared.tree.Tree.{Tree}
use Rattle.p3l_skel.specs.Tree.{GivesOuts}
use Rattle.p3l_firing.specs.declared.net.Net.{Net}
use Rattle.p3l_firing.specs.Nodes.{Leaf}
use Rattle.p3l_net.specs.Machine.{IsSound, Seen}
use Rattle.p3l_net.specs.Steps.{CanFire, CanRefresh, Done, Ends, FiresLocally, HasEnds, IsKept, Moves}
use Rattle.p3l_net.proofs.Frame.{inbox_stays, others_agree, others_stay}
use Rattle.p3l_net.proofs.SoundLaw.{fired_sound}

-- after a step of process p that leaves the machine sound, the old flags need no more than a look at what was touched
pub moved_refresh : {m n : Seen} {flags : List Bool} {ends : Ends} {p : ℕ} {touched : List ℕ} → IsKept m flags ends → IsSound n → p < length m.net.procs → Moves m n p touched → CanRefresh n ends flags p touched
moved_refresh {flags = flags} {ends = ends} {p = p} {touched = touched} kept sound there moves =
    let net = sym moves.net in
    record {
      sound = sound;
      sides = subst (λ (x : Net). HasEnds x ends) net kept.sides;
      there = subst (λ (x : Net). p < length x.procs) net there;
      inside = subst (λ (x : Net). AllByRecursion (λ c. c < length x.chans) touched) net moves.inside;
      size = kept.agrees.size ∙ ap (λ (x : Net). length x.procs) net;
      others = others_agree flags kept.agrees ends kept.sides moves;
    }

-- a firing of a machine that contracts see as `seen`
module _ {m n seen : Seen} {flags : List Bool} {ends : Ends} {leaf : Leaf} {p : ℕ} {touched : List ℕ} {outcome : Option Outcome} (kept : IsKept m flags ends) (is : m ≡ seen) (done : Done leaf m n p touched outcome) where
  pub fired_refresh : {tree : Tree} → CanFire seen p → tree ≡ seen.tree → GivesOuts tree leaf → CanRefresh n ends flags p touched
  fired_refresh may same gives =
      let may_now = subst (λ (x : Seen). CanFire x p) (sym is) may in
      let gives_now = subst (λ t. GivesOuts t leaf) (same ∙ sym (ap (λ (x : Seen). x.tree) is)) gives in
      moved_refresh kept (fired_sound kept.sound gives_now (and_parts _ _ may_now.can).1 done) may_now.there done.moves

  pub fired_locally : FiresLocally leaf seen n p outcome
  fired_locally =
      subst (λ (x : Seen). FiresLocally leaf x n p outcome) is
      (record { fires = done.fires; others = others_stay done.moves; item = inbox_stays done.moves })
