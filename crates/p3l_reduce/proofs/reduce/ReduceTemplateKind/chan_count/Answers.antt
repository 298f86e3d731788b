use Rattle.std.proofs.Common.{◌≡◌, ◌≢◌, ◌^◌, ◌≤◌, sym, ap, ◌∙◌, arith}
use Rattle.p3l_firing.specs.Segments.{level_of}
use Rattle.p3l_reduce.proofs.Placing.{no_chans, many_chans, power_wide}
use Rattle.p3l_reduce.proofs.reduce.ReduceTemplateKind.chan_count.Goals as goal

pub returns-then-level-eq0 : goal.returns-then-level-eq0
returns-then-level-eq0 c base =
    no_chans c.args.self.now.node c.args.self.now.len (level_of c.args.self.now.segments)
    (sym c.level-level.ensures.value ∙ c.if-level-eq0.true) base

pub returns : goal.returns
returns c base =
    let level = level_of c.args.self.now.segments in
    let some : level ≢ 0 = λ e. c.if-level-eq0.false (c.level-level.ensures.value ∙ e) in
    let chans = many_chans c.args.self.now.node c.args.self.now.len level some base in
    let power : c.segment_count.result ≡ 2 ^ level = c.segment_count.ensures.value ∙ ap (λ z. 2 ^ z) c.level-level.ensures.value in
    let wide : 2 ≤ 2 ^ level = power_wide level (omega (arith, some)) in
    omega (arith, chans, power, wide)
