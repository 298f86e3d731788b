-- One process at level 0, else the tree.
use Rattle.std.proofs.Common.{◌≡◌, ◌≤◌, ◌-◌, ◌^◌, suc, length, IfOk, sym, ap, ◌∙◌, subst, arith}
use Rattle.p3l_base.specs.Memory.{IfGiven}
use Rattle.p3l_reduce.proofs.Placing.{shape_one, shape_tree, power_wide}
use Rattle.p3l_firing.specs.Segments.{level_of}
use Rattle.p3l_reduce.specs.Reduce.{tree_shape}
use Rattle.p3l_reduce.specs.laws.ReduceLaw.{tree_procs}
use Rattle.p3l_template.specs.Built.{all_ports}
use Rattle.p3l_template.specs.Shape.{added, base_of}
use Rattle.p3l_reduce.proofs.reduce.ReduceTemplateTemplate.place.Goals as goal

pub place-requires-clause-room : goal.place-requires-clause-room
place-requires-clause-room c =
    let e = shape_one c.args.self.now.node c.args.self.now.len (level_of c.args.self.now.segments)
    (sym c.level-level.ensures.value ∙ c.if-level-eq0.true) in (
      omega (arith, ap (λ z. length (z.procs (base_of c.args.at.now c.args.builder.now))) e, c.requires.room.0),
      omega (arith, ap (λ z. z.chans (base_of c.args.at.now c.args.builder.now)) e, c.requires.room.1),
    )

pub returns-then-level-eq0-clause-placed : goal.returns-then-level-eq0-clause-placed
returns-then-level-eq0-clause-placed c =
    subst (λ sh. IfGiven c.place.result
    (λ ports. c.place.new.builder
    ≡ added c.args.builder.now (sh.procs (base_of c.args.at.now c.args.builder.now))
    (sh.laid c.args.cap (base_of c.args.at.now c.args.builder.now))))
    (sym (shape_one c.args.self.now.node c.args.self.now.len (level_of c.args.self.now.segments)
    (sym c.level-level.ensures.value ∙ c.if-level-eq0.true))) c.place.ensures.placed

pub returns-then-level-eq0-clause-ports : goal.returns-then-level-eq0-clause-ports
returns-then-level-eq0-clause-ports c =
    subst (λ sh. IfOk c.place.result (λ ports. ports ≡ all_ports (sh.slots (base_of c.args.at.now c.args.builder.now))))
    (sym (shape_one c.args.self.now.node c.args.self.now.len (level_of c.args.self.now.segments)
    (sym c.level-level.ensures.value ∙ c.if-level-eq0.true))) c.place.ensures.ports

pub place_tree-requires-clause-room : goal.place_tree-requires-clause-room
place_tree-requires-clause-room c =
    let e = shape_tree c.args.self.now.node c.args.self.now.len (level_of c.args.self.now.segments)
    (λ z. c.if-level-eq0.false (c.level-level.ensures.value ∙ z)) in
    let l : c.level-level.result ≡ level_of c.args.self.now.segments = c.level-level.ensures.value in
    let power : 2 ^ c.level-level.result ≡ 2 ^ level_of c.args.self.now.segments = ap (λ z. 2 ^ z) l in
    let more : level_of c.args.self.now.segments ≡ suc (level_of c.args.self.now.segments - 1) =
    omega (arith, l, c.if-level-eq0.false) in
    let p = ap (λ z. length (z.procs (base_of c.args.at.now c.args.builder.now))) e
    ∙ tree_procs c.args.self.now.node (2 ^ level_of c.args.self.now.segments)
    (level_of c.args.self.now.segments - 1) c.args.self.now.len (ap (λ z. 2 ^ z) more)
    (base_of c.args.at.now c.args.builder.now) in
    let n = ap (λ z. z.chans (base_of c.args.at.now c.args.builder.now)) e in
    let wide : 2 ≤ 2 ^ level_of c.args.self.now.segments =
    power_wide (level_of c.args.self.now.segments) (omega (arith, more)) in
    (omega (arith, power, p, c.requires.room.0), omega (arith, power, n, wide, c.requires.room.1))

pub returns-clause-placed : goal.returns-clause-placed
returns-clause-placed c =
    subst (λ sh. c.place_tree.new.builder
    ≡ added c.args.builder.now (sh.procs (base_of c.args.at.now c.args.builder.now))
    (sh.laid c.args.cap (base_of c.args.at.now c.args.builder.now)))
    (sym (shape_tree c.args.self.now.node c.args.self.now.len (level_of c.args.self.now.segments)
    (λ z. c.if-level-eq0.false (c.level-level.ensures.value ∙ z))))
    (subst (λ k. c.place_tree.new.builder
    ≡ added c.args.builder.now
    ((tree_shape c.args.self.now.node (2 ^ k) (k - 1) c.args.self.now.len).procs
    (base_of c.args.at.now c.args.builder.now))
    ((tree_shape c.args.self.now.node (2 ^ k) (k - 1) c.args.self.now.len).laid c.args.cap
    (base_of c.args.at.now c.args.builder.now)))
    c.level-level.ensures.value c.in_ok-place_tree.ensures)

pub returns-clause-ports : goal.returns-clause-ports
returns-clause-ports c =
    c.new.ensures
    ∙ sym (ap (λ sh. all_ports (sh.slots (base_of c.args.at.now c.args.builder.now)))
    (shape_tree c.args.self.now.node c.args.self.now.len (level_of c.args.self.now.segments)
    (λ z. c.if-level-eq0.false (c.level-level.ensures.value ∙ z))))
