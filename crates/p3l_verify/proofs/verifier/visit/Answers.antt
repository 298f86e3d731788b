use Rattle.std.proofs.Common.{◌≡◌, ℕ, ◌+◌, ◌-◌, IsTrue, List, Option, Some, None, refl, sym, ap, ◌∙◌, subst}
use Rattle.std.specs.Prelude.{slice_get, slice_set}
use Rattle.std.proofs.lemmas.Option.{slice_get_within}
use Rattle.p3l_code.specs.Safe.{depth_after, pops, pushes, target_of}
use Rattle.p3l_code.specs.declared.instr.Code.{Code}
use Rattle.p3l_code.specs.declared.instr.Instr.{Instr}
use Rattle.p3l_verify.specs.Known.{IsSound, IsLocal, Knows, CanNote}
use Rattle.p3l_verify.proofs.Notes.{knows_same}
use Rattle.p3l_verify.proofs.Places.{MustBe, settles, is_local, next_can, jump_can, visited}
use Rattle.p3l_verify.proofs.verifier.visit.Goals as goal

-- the depth after an instruction
after_is : (d p q : ℕ) (i : Instr) → p ≡ pops i → q ≡ pushes i → d - p + q ≡ depth_after d i
after_is d p q i ep eq = ap (λ n. d - n + q) ep ∙ ap (λ n. d - pops i + n) eq

-- a depth is settled: the place must have it, and it is soundly known
record Settled (code : Code) (known : List (Option ℕ)) (place d : ℕ) : Type 0 where
  must : MustBe code place d
  sound : IsSound code known place
  own : Knows known place d

settled : (code : Code) (known known' : List (Option ℕ)) (place d : ℕ) (i : Instr) → slice_get code.instrs place ≡ Some i → IsSound code known place → CanNote known place d → (slice_get known place ≡ Some None → d ≡ 0) → known' ≡ slice_set known place (Some d) → Settled code known' place d
settled code known known' place d i at s can free e =
    let both = settles code known place d s (slice_get_within code.instrs place i at) can free in
    record {
      must = both.0;
      sound = subst (λ k. IsSound code k place) (sym e) both.1;
      own = subst (λ k. Knows k place d) (sym e) (knows_same known place d can);
    }

pub returns-then-not-is_local-clause-fails : goal.returns-then-not-is_local-clause-fails
returns-then-not-is_local-clause-fails c =
    let e = c.settle-depth.ensures in
    let t = settled c.args.code.now c.args.known.now c.settle-depth.new.known c.args.place c.settle-depth.result c.args.instr c.requires.at c.requires.sound e.depth e.unreached e.known in
    λ h. let holds : IsTrue c.is_local.result = c.is_local.ensures.1 (is_local c.args.code.now c.settle-depth.new.known c.args.place c.settle-depth.result c.args.instr c.requires.at t.sound t.own t.must h) in
    absurd (let f = c.if-not-is_local.true in cc)

pub returns-else-note_at-clause-fails : goal.returns-else-note_at-clause-fails
returns-else-note_at-clause-fails c =
    let e = c.settle-depth.ensures in
    let t = settled c.args.code.now c.args.known.now c.settle-depth.new.known c.args.place c.settle-depth.result c.args.instr c.requires.at c.requires.sound e.depth e.unreached e.known in
    let b = after_is c.settle-depth.result c.pops.result c.pushes.result c.args.instr c.pops.ensures c.pushes.ensures in
    λ h. c.note_at.ensures.can.1 (next_can c.args.code.now c.settle-depth.new.known c.args.place c.settle-depth.result c.args.instr c.requires.at t.sound t.own t.must c.next_of.result (target_of c.args.instr) _ c.next_of.ensures refl b h)

pub returns-then-note_at-clause-fails : goal.returns-then-note_at-clause-fails
returns-then-note_at-clause-fails c =
    let e = c.settle-depth.ensures in
    let t = settled c.args.code.now c.args.known.now c.settle-depth.new.known c.args.place c.settle-depth.result c.args.instr c.requires.at c.requires.sound e.depth e.unreached e.known in
    let b = after_is c.settle-depth.result c.pops.result c.pushes.result c.args.instr c.pops.ensures c.pushes.ensures in
    let n = c.note_at.ensures in
    λ h. c.note_at-then-note_at.ensures.can.1 (jump_can c.args.code.now c.settle-depth.new.known c.args.place c.settle-depth.result c.args.instr c.requires.at t.sound t.own t.must c.next_of.result c.target_of.result _ c.next_of.ensures c.target_of.ensures b c.note_at.new.known (n.can.0 c.if-note_at.true) (n.known c.if-note_at.true) h)

pub returns-then-note_at-clause-goes : goal.returns-then-note_at-clause-goes
returns-then-note_at-clause-goes c =
    let e = c.settle-depth.ensures in
    let t = settled c.args.code.now c.args.known.now c.settle-depth.new.known c.args.place c.settle-depth.result c.args.instr c.requires.at c.requires.sound e.depth e.unreached e.known in
    let b = after_is c.settle-depth.result c.pops.result c.pushes.result c.args.instr c.pops.ensures c.pushes.ensures in
    let n = c.note_at.ensures in
    let m = c.note_at-then-note_at.ensures in
    let local : IsLocal c.args.code.now c.args.place c.args.instr c.settle-depth.result = c.is_local.ensures.0 c.if-not-is_local.false in
    λ h. visited c.args.code.now c.settle-depth.new.known c.args.place c.settle-depth.result c.args.instr c.requires.at t.sound t.own t.must c.next_of.result c.target_of.result _ c.next_of.ensures c.target_of.ensures b c.note_at.new.known c.note_at-then-note_at.new.known local (n.can.0 c.if-note_at.true) (n.known c.if-note_at.true) (m.can.0 h) (m.known h)
