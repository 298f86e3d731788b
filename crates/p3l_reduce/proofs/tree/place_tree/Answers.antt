-- The elements added so far, call by call.
use Rattle.std.proofs.Common.{◌≡◌, ◌+◌, ◌-◌, ◌^◌, suc, length, ◌++◌, replicate, ap, ap₂, ◌∙◌, length-append, arith}
use Rattle.p3l_firing.specs.declared.net.Net.{Net}
use Rattle.p3l_firing.specs.declared.process.ProcKind.TheVariants.{Split}
use Rattle.p3l_reduce.proofs.Placing.{power_wide, more_chans, more_procs, tree_built}
use Rattle.p3l_firing.specs.Segments.{segment_lengths}
use Rattle.p3l_reduce.specs.Reduce.{join_procs, fold_procs}
use Rattle.p3l_reduce.specs.laws.ReduceLaw.{lengths_length, joins_length}
use Rattle.p3l_template.specs.Shape.{empty_chan, numbers_from}
use Rattle.p3l_reduce.proofs.tree.place_tree.Goals as goal

pub overflow_cast-count : goal.overflow_cast-count
overflow_cast-count c =
    let n : c.len-count.result ≡ 2 ^ c.args.level =
    c.len-count.ensures ∙ c.in_ok-lengths.lengths.ok.0 ∙ ap length c.in_ok-lengths.ensures
    ∙ lengths_length c.args.level c.args.len in
    omega (arith, n, c.requires.room.0)

pub channels-requires : goal.channels-requires
channels-requires c =
    let n : c.len-count.result ≡ 2 ^ c.args.level =
    c.len-count.ensures ∙ c.in_ok-lengths.lengths.ok.0 ∙ ap length c.in_ok-lengths.ensures
    ∙ lengths_length c.args.level c.args.len in
    omega (arith, n, c.requires.room.1, power_wide c.args.level c.requires.level.0)

pub overflow_cast-from : goal.overflow_cast-from
overflow_cast-from c =
    let n : c.len-count.result ≡ 2 ^ c.args.level =
    c.len-count.ensures ∙ c.in_ok-lengths.lengths.ok.0 ∙ ap length c.in_ok-lengths.ensures
    ∙ lengths_length c.args.level c.args.len in
    omega (
      arith,
      n,
      c.channel_count-from.ensures,
      more_chans c.args.builder.now c.channels.new.self c.len-count.result c.args.cap c.in_ok-segments.ensures.added,
      c.requires.room.1,
      power_wide c.args.level c.requires.level.0,
    )

pub overflow_add-count : goal.overflow_add-count
overflow_add-count c =
    let n : c.len-count.result ≡ 2 ^ c.args.level =
    c.len-count.ensures ∙ c.in_ok-lengths.lengths.ok.0 ∙ ap length c.in_ok-lengths.ensures
    ∙ lengths_length c.args.level c.args.len in
    omega (arith, n, c.requires.room.0)

pub overflow_sub-count : goal.overflow_sub-count
overflow_sub-count c =
    let n : c.len-count.result ≡ 2 ^ c.args.level =
    c.len-count.ensures ∙ c.in_ok-lengths.lengths.ok.0 ∙ ap length c.in_ok-lengths.ensures
    ∙ lengths_length c.args.level c.args.len in
    omega (arith, n, power_wide c.args.level c.requires.level.0)

pub channels-requires-2 : goal.channels-requires-2
channels-requires-2 c =
    let n : c.len-count.result ≡ 2 ^ c.args.level =
    c.len-count.ensures ∙ c.in_ok-lengths.lengths.ok.0 ∙ ap length c.in_ok-lengths.ensures
    ∙ lengths_length c.args.level c.args.len in
    omega (
      arith,
      n,
      more_chans c.args.builder.now c.channels.new.self c.len-count.result c.args.cap c.in_ok-segments.ensures.added,
      c.requires.room.1,
      power_wide c.args.level c.requires.level.0,
    )

pub place_joins-requires-clause-room : goal.place_joins-requires-clause-room
place_joins-requires-clause-room c =
    let n : c.len-count.result ≡ 2 ^ c.args.level =
    c.len-count.ensures ∙ c.in_ok-lengths.lengths.ok.0 ∙ ap length c.in_ok-lengths.ensures
    ∙ lengths_length c.args.level c.args.len in
    let p : length c.process.new.self.procs ≡ length c.args.builder.now.procs + 1 =
    ap (λ b. length b.procs) c.in_ok-_split.ensures.added ∙ length-append c.channels-2.new.self.procs _
    ∙ ap (λ b. length b.procs + 1)
    (c.in_ok-_tees.ensures.added
    ∙ ap (λ b. record {
      procs = b.procs;
      chans = c.channels.new.self.chans ++ replicate (c.len-count.result + c.len-count.result - 2) (empty_chan c.args.cap);
    }) c.in_ok-segments.ensures.added) in
    omega (arith, n, p, c.requires.room.0, power_wide c.args.level c.requires.level.0)

pub place_joins-requires-clause-chans : goal.place_joins-requires-clause-chans
place_joins-requires-clause-chans c =
    let n : c.len-count.result ≡ 2 ^ c.args.level =
    c.len-count.ensures ∙ c.in_ok-lengths.lengths.ok.0 ∙ ap length c.in_ok-lengths.ensures
    ∙ lengths_length c.args.level c.args.len in
    omega (
      arith,
      n,
      c.channel_count-from.ensures,
      more_chans c.args.builder.now c.channels.new.self c.len-count.result c.args.cap c.in_ok-segments.ensures.added,
      c.requires.room.1,
      power_wide c.args.level c.requires.level.0,
    )

pub place_folds-requires-clause-room : goal.place_folds-requires-clause-room
place_folds-requires-clause-room c =
    let n : c.len-count.result ≡ 2 ^ c.args.level =
    c.len-count.ensures ∙ c.in_ok-lengths.lengths.ok.0 ∙ ap length c.in_ok-lengths.ensures
    ∙ lengths_length c.args.level c.args.len in
    let p : length c.process.new.self.procs ≡ length c.args.builder.now.procs + 1 =
    ap (λ b. length b.procs) c.in_ok-_split.ensures.added ∙ length-append c.channels-2.new.self.procs _
    ∙ ap (λ b. length b.procs + 1)
    (c.in_ok-_tees.ensures.added
    ∙ ap (λ b. record {
      procs = b.procs;
      chans = c.channels.new.self.chans ++ replicate (c.len-count.result + c.len-count.result - 2) (empty_chan c.args.cap);
    }) c.in_ok-segments.ensures.added) in
    let j = more_procs c.process.new.self c.place_joins.new.builder _ c.in_ok-place_joins.ensures in
    let k : length c.deref.result.now ≡ 2 ^ c.args.level =
    ap length (c.deref.ensures.value ∙ c.in_ok-lengths.ensures) ∙ lengths_length c.args.level c.args.len in
    omega (
      arith,
      n,
      p,
      j,
      k,
      joins_length c.args.node c.args.at.now.output c.channel_count-from.result 1 (c.len-count.result - 1),
      c.requires.room.0,
      power_wide c.args.level c.requires.level.0,
    )

pub place_folds-requires-clause-chans : goal.place_folds-requires-clause-chans
place_folds-requires-clause-chans c =
    let n : c.len-count.result ≡ 2 ^ c.args.level =
    c.len-count.ensures ∙ c.in_ok-lengths.lengths.ok.0 ∙ ap length c.in_ok-lengths.ensures
    ∙ lengths_length c.args.level c.args.len in (
      omega (arith, c.channel_count-first.ensures, c.requires.room.1, power_wide c.args.level c.requires.level.0),
      omega (
        arith,
        n,
        c.channel_count-from.ensures,
        more_chans c.args.builder.now c.channels.new.self c.len-count.result c.args.cap c.in_ok-segments.ensures.added,
        c.requires.room.1,
        power_wide c.args.level c.requires.level.0,
      ),
    )

pub returns : goal.returns
returns c =
    let b : Net = c.args.builder.now in
    let n : c.len-count.result ≡ 2 ^ c.args.level =
    c.len-count.ensures ∙ c.in_ok-lengths.lengths.ok.0 ∙ ap length c.in_ok-lengths.ensures
    ∙ lengths_length c.args.level c.args.len in
    let first : c.channel_count-first.result ≡ length c.args.builder.now.chans = c.channel_count-first.ensures in
    let from : c.channel_count-from.result ≡ length c.args.builder.now.chans + 2 ^ c.args.level =
    c.channel_count-from.ensures
    ∙ more_chans c.args.builder.now c.channels.new.self c.len-count.result c.args.cap c.in_ok-segments.ensures.added
    ∙ ap (λ z. length c.args.builder.now.chans + z) n in
    let d : c.deref.result.now ≡ segment_lengths c.args.level c.args.len = c.deref.ensures.value ∙ c.in_ok-lengths.ensures in
    let whole : segment_lengths c.args.level c.args.len ≡ segment_lengths (suc (c.args.level - 1)) c.args.len =
    ap (λ z. segment_lengths z c.args.len) (omega (arith, c.requires.level.0)) in
    let split =
    ap₂ (λ x y. record { kind = Split; node = c.args.node; arg = 0; ins = x; outs = y }) c.in_ok-input.ensures
    (c.in_ok-segments.ensures.numbers ∙ ap (numbers_from (length c.args.builder.now.chans)) n) in
    let joins : join_procs c.args.node c.args.at.now.output c.channel_count-from.result 1 (c.len-count.result - 1)
    ≡ join_procs c.args.node c.args.at.now.output (length c.args.builder.now.chans + 2 ^ c.args.level) 1
    (2 ^ c.args.level - 1) =
    ap₂ (λ x y. join_procs c.args.node c.args.at.now.output x 1 (y - 1)) from n in
    let folds : fold_procs c.args.node
    (length c.deref.result.now) c.args.at.now.output c.channel_count-first.result c.channel_count-from.result 0
    c.deref.result.now
    ≡ fold_procs c.args.node (2 ^ c.args.level) c.args.at.now.output (length c.args.builder.now.chans)
    (length c.args.builder.now.chans + 2 ^ c.args.level) 0 (segment_lengths (suc (c.args.level - 1)) c.args.len) =
    ap₂ (λ x y. fold_procs c.args.node
    (length c.deref.result.now) c.args.at.now.output x y 0 c.deref.result.now) first from
    ∙ ap₂ (λ x y. fold_procs c.args.node x c.args.at.now.output (length c.args.builder.now.chans)
    (length c.args.builder.now.chans + 2 ^ c.args.level) 0 y) (ap length d ∙ lengths_length c.args.level c.args.len)
    (d ∙ whole) in
    tree_built c.args.builder.now c.channels.new.self c.channels-2.new.self c.process.new.self c.place_joins.new.builder
    c.place_folds.new.builder c.len-count.result (2 ^ c.args.level) c.args.cap
    _ _ _ _ _ _ n split joins folds c.in_ok-segments.ensures.added c.in_ok-_tees.ensures.added
    c.in_ok-_split.ensures.added c.in_ok-place_joins.ensures c.in_ok-place_folds.ensures
