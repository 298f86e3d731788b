use Rattle.std.proofs.Common.{◌∙◌, rules, arith}
use Rattle.p3l_net.proofs.Segmenting.{one_segment, front_whole, front_segment, back_whole, back_segment, half_power, half_twice}
use Rattle.p3l_net.proofs.kinds.split.+segment.Goals as goal

pub returns-then-count-lt2 : goal.returns-then-count-lt2
returns-then-count-lt2 t c =
    one_segment c.args.elem c.args.count c.args.words.now c.requires.some c.requires.whole c.requires.power c.requires.few c.if-count-lt2.true c.args.s c.requires.there

pub segment-requires : goal.segment-requires
segment-requires t c =
    let few = c.requires.few in (
      search rules,
      (
        c.requires.some,
        (
          front_whole c.args.elem c.args.count c.args.words.now c.requires.some c.requires.whole c.requires.power few c.if-count-lt2.false c.split_at.result.0.now c.split_at.ensures.front,
          (
            half_power c.args.elem c.args.count c.args.words.now c.requires.some c.requires.whole c.requires.power few c.if-count-lt2.false,
            (omega (arith, few), c.if-s-half.true),
          ),
        ),
      ),
    )

pub segment-requires-else-s-half : goal.segment-requires-else-s-half
segment-requires-else-s-half t c =
    let few = c.requires.few in
    let there = c.requires.there in
    let more = c.if-s-half.false in
    let twice = half_twice c.args.elem c.args.count c.args.words.now c.requires.some c.requires.whole c.requires.power few c.if-count-lt2.false in (
      search rules,
      (
        c.requires.some,
        (
          back_whole c.args.elem c.args.count c.args.words.now c.requires.some c.requires.whole c.requires.power few c.if-count-lt2.false c.split_at.result.1.now c.split_at.ensures.back,
          (
            half_power c.args.elem c.args.count c.args.words.now c.requires.some c.requires.whole c.requires.power few c.if-count-lt2.false,
            (omega (arith, few), omega (arith, there, more, twice)),
          ),
        ),
      ),
    )

pub returns-then-s-half : goal.returns-then-s-half
returns-then-s-half t c =
    c.segment.ensures
    ∙ front_segment c.args.elem c.args.count c.args.words.now c.requires.some c.requires.whole c.requires.power c.requires.few c.if-count-lt2.false c.split_at.result.0.now c.split_at.ensures.front c.args.s c.if-s-half.true

pub returns-else-s-half : goal.returns-else-s-half
returns-else-s-half t c =
    c.segment-else-s-half.ensures
    ∙ back_segment c.args.elem c.args.count c.args.words.now c.requires.some c.requires.whole c.requires.power c.requires.few c.if-count-lt2.false c.split_at.result.1.now c.split_at.ensures.back c.args.s c.if-s-half.false
