use Rattle.std.proofs.Common.{◌≡◌, ℤ, ◌+◌, List, [], ◌∷◌, ◌++◌, Option, Some, None, Result, Ok, Err, refl, sym, ap, subst, ◌∙◌, append-nil}
use Rattle.p3l_base.specs.declared.NoMemory.{NoMemory}
use Rattle.p3l_io.specs.Change.{change}
use Rattle.p3l_skel.specs.Tree.{node_at}
use Rattle.p3l_stream.specs.declared.items.Ending.{Ending}
use Rattle.p3l_stream.specs.Next.{answered}
use Rattle.p3l_stream.specs.Seen.{started}
use Rattle.p3l_run.specs.Feed.{Gives, input_limit}
use Rattle.p3l_run.proofs.FeedSteps.{gives_first, gives_so}
use Rattle.p3l_units.specs.Table.{Served}
use Rattle.p3l_run.proofs.Steps.{counted_more, noted_more, noted_none}
use Rattle.p3l_run.proofs.sampling.sample.Goals as goal

pub loop-before-init : goal.loop-before-init
loop-before-init g c =
    let tree = c.args.tree.now in
    let width = (node_at tree 0).ins in
    let fresh = c.in_ok-lines.ensures ∙ ap (λ w. started w input_limit) c.width_of.ensures.width in
    record {
      gives = record {
        items = [];
        gives = gives_first width (g.S.Source.observed c.args.input.now) c.in_ok-lines.lines (c.a_stream_gives_its_items.ensures.starts width input_limit) fresh;
        noted = noted_none tree (record { tree = tree; codes = c.args.codes.now }) c.args.profile.now.greatest;
        counted = refl;
      };
      of = c.requires.of;
    }

pub returns-in-Err-clause-sampled : goal.returns-in-Err-clause-sampled
returns-in-Err-clause-sampled g c =
    let width = (node_at c.args.tree.now 0).ins in
    let so_far = c.loop-before.invariant.gives in
    let s_open = so_far.gives.closed_is in
    let e = c.in_ok-answer.ensures in
    let is : Ok (answered c.in_ok-answer.answer) ≡ Ok (Err c.in-Err.ending) = ap (λ a. Ok a) (sym c.into_item.ensures ∙ c.in-Err.is) in
    let Given : List (List ℤ) → Option (Result Ending NoMemory) → Type 0 = λ items closed. Gives width (change (g.S.Source.observed c.args.input.now) (g.S.Source.observed c.next.new.source)) c.next.new.self items closed in
    let more : Given (so_far.items ++ []) (Some (Ok c.in-Err.ending)) =
    gives_so width c.loop-before.lines c.next.new.self (change (g.S.Source.observed c.loop-before.input) (g.S.Source.observed c.next.new.source)) (Ok (answered c.in_ok-answer.answer))
    (λ bytes items given answers. c.a_stream_gives_its_items.ensures.answers width c.loop-before.lines c.next.new.self _ bytes items (Ok (answered c.in_ok-answer.answer)) given s_open (e.closed s_open) answers)
    (e.answers s_open) (e.cause s_open) (e.closed s_open) e.items (Ok (Err c.in-Err.ending)) is _ so_far.items so_far.gives in
    record {
      s = c.next.new.self;
      items = so_far.items;
      gives = subst (λ items. Given items (Some (Ok c.in-Err.ending))) (append-nil so_far.items) more;
      noted = so_far.noted;
    }

pub returns-in-Trapped-clause-sampled : goal.returns-in-Trapped-clause-sampled
returns-in-Trapped-clause-sampled g c =
    let width = (node_at c.args.tree.now 0).ins in
    let so_far = c.loop-before.invariant.gives in
    let s_open = so_far.gives.closed_is in
    let e = c.in_ok-answer.ensures in
    let is : Ok (answered c.in_ok-answer.answer) ≡ Ok (Ok c.in-Ok.words) = ap (λ a. Ok a) (sym c.into_item.ensures ∙ c.in-Ok.is) in
    let Given : List (List ℤ) → Option (Result Ending NoMemory) → Type 0 = λ items closed. Gives width (change (g.S.Source.observed c.args.input.now) (g.S.Source.observed c.next.new.source)) c.next.new.self items closed in
    let more : Given (so_far.items ++ c.in-Ok.words ∷ []) None =
    gives_so width c.loop-before.lines c.next.new.self (change (g.S.Source.observed c.loop-before.input) (g.S.Source.observed c.next.new.source)) (Ok (answered c.in_ok-answer.answer))
    (λ bytes items given answers. c.a_stream_gives_its_items.ensures.answers width c.loop-before.lines c.next.new.self _ bytes items (Ok (answered c.in_ok-answer.answer)) given s_open (e.closed s_open) answers)
    (e.answers s_open) (e.cause s_open) (e.closed s_open) e.items (Ok (Ok c.in-Ok.words)) is _ so_far.items so_far.gives in
    record {
      s = c.next.new.self;
      items = so_far.items;
      words = c.in-Ok.words;
      gives = more;
      values = so_far.noted.values;
      traps = sym c.in_ok-trap.ensures.item ∙ c.in-Trapped.is;
      number_is = ap (λ k. k + 1) so_far.counted;
    }

pub loop-before-preserved : goal.loop-before-preserved
loop-before-preserved g c =
    let tree = c.args.tree.now in
    let served : Served = record { tree = tree; codes = c.args.codes.now } in
    let width = (node_at tree 0).ins in
    let so_far = c.loop-before.invariant.gives in
    let s_open = so_far.gives.closed_is in
    let e = c.in_ok-answer.ensures in
    let is : Ok (answered c.in_ok-answer.answer) ≡ Ok (Ok c.in-Ok.words) = ap (λ a. Ok a) (sym c.into_item.ensures ∙ c.in-Ok.is) in
    let Given : List (List ℤ) → Option (Result Ending NoMemory) → Type 0 = λ items closed. Gives width (change (g.S.Source.observed c.args.input.now) (g.S.Source.observed c.next.new.source)) c.next.new.self items closed in
    let more : Given (so_far.items ++ c.in-Ok.words ∷ []) None =
    gives_so width c.loop-before.lines c.next.new.self (change (g.S.Source.observed c.loop-before.input) (g.S.Source.observed c.next.new.source)) (Ok (answered c.in_ok-answer.answer))
    (λ bytes items given answers. c.a_stream_gives_its_items.ensures.answers width c.loop-before.lines c.next.new.self _ bytes items (Ok (answered c.in_ok-answer.answer)) given s_open (e.closed s_open) answers)
    (e.answers s_open) (e.cause s_open) (e.closed s_open) e.items (Ok (Ok c.in-Ok.words)) is _ so_far.items so_far.gives in
    record {
      gives = record {
        items = so_far.items ++ c.in-Ok.words ∷ [];
        gives = more;
        noted = noted_more tree served c.args.profile.now.greatest c.loop-before.profile.greatest c.item.new.self.greatest so_far.items c.in-Ok.words c.in-Value.field-0 so_far.noted c.in_ok-trap.ensures.noted (sym c.in-Value.is ∙ c.in_ok-trap.ensures.item);
        counted = counted_more so_far.items c.in-Ok.words c.loop-before.before so_far.counted;
      };
      of = c.in_ok-trap.ensures.of;
    }
