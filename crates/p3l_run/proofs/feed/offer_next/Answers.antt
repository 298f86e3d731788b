use Rattle.std.proofs.Common.{◌≡◌, ◌∙◌, sym, refl, ap, subst, Ok, Err}
use Rattle.std.proofs.lemmas.Result.{err_from_is_err_and}
use Rattle.p3l_io.specs.Change.{change}
use Rattle.p3l_stream.specs.Answers.{Answers}
use Rattle.p3l_stream.specs.Next.{answered}
use Rattle.p3l_run.proofs.FeedSteps.{end_feeds, in_vain, item_feeds}
use Rattle.p3l_run.proofs.feed.offer_next.Goals as goal

pub returns-in_err-answer-clause-does : goal.returns-in_err-answer-clause-does
returns-in_err-answer-clause-does g c =
    let is_open = c.requires.open in
    let e = c.in_err-answer.ensures in
    let p = err_from_is_err_and c.from_residual.result c.from_residual.ensures.1 in
    rw p.1 (in_vain _ c.args.lines.now c.next.new.self (change (g.S.Source.observed c.args.input.now) (g.S.Source.observed c.next.new.source)) (Err c.in_err-answer.field-0.0)
    (λ bytes items given answers. c.a_stream_gives_its_items.ensures.answers _ c.args.lines.now c.next.new.self _ bytes items (Err c.in_err-answer.field-0.0) given is_open (e.closed is_open) answers)
    (e.answers is_open) (e.cause is_open) (e.closed is_open) e.items is_open (Err c.in_err-answer.field-0.0) refl tt)

pub returns-in_err-offer-in-Ok-clause-does : goal.returns-in_err-offer-in-Ok-clause-does
returns-in_err-offer-in-Ok-clause-does g c =
    let is_open = c.requires.open in
    let e = c.in_ok-answer.ensures in
    let is : Ok (answered c.in_ok-answer.answer) ≡ Ok (Ok c.in-Ok.item) = ap (λ a. Ok a) (sym c.into_item.ensures ∙ c.in-Ok.is) in
    let p = err_from_is_err_and c.from_residual-in_err-offer-in-Ok.result c.from_residual-in_err-offer-in-Ok.ensures.1 in
    rw p.1 (in_vain _ c.args.lines.now c.next.new.self (change (g.S.Source.observed c.args.input.now) (g.S.Source.observed c.next.new.source)) (Ok (answered c.in_ok-answer.answer))
    (λ bytes items given answers. c.a_stream_gives_its_items.ensures.answers _ c.args.lines.now c.next.new.self _ bytes items (Ok (answered c.in_ok-answer.answer)) given is_open (e.closed is_open) answers)
    (e.answers is_open) (e.cause is_open) (e.closed is_open) e.items is_open (Ok (Ok c.in-Ok.item)) is
    (c.a_stream_gives_its_items.ensures.wide c.args.lines.now c.next.new.self _ c.in-Ok.item (subst (Answers c.args.lines.now c.next.new.self (change (g.S.Source.observed c.args.input.now) (g.S.Source.observed c.next.new.source))) is (e.answers is_open)) ∙ c.requires.wide, tt))

pub returns-in_ok-offer-in-Ok-clause-does : goal.returns-in_ok-offer-in-Ok-clause-does
returns-in_ok-offer-in-Ok-clause-does g c =
    let is_open = c.requires.open in
    let e = c.in_ok-answer.ensures in
    let is : Ok (answered c.in_ok-answer.answer) ≡ Ok (Ok c.in-Ok.item) = ap (λ a. Ok a) (sym c.into_item.ensures ∙ c.in-Ok.is) in
    item_feeds _ c.args.lines.now c.next.new.self (change (g.S.Source.observed c.args.input.now) (g.S.Source.observed c.next.new.source)) (Ok (answered c.in_ok-answer.answer))
    (λ bytes items given answers. c.a_stream_gives_its_items.ensures.answers _ c.args.lines.now c.next.new.self _ bytes items (Ok (answered c.in_ok-answer.answer)) given is_open (e.closed is_open) answers)
    (e.answers is_open) (e.cause is_open) (e.closed is_open) e.items is_open c.args.machine.now c.offer.new.self c.in-Ok.item is
    (c.a_stream_gives_its_items.ensures.wide c.args.lines.now c.next.new.self _ c.in-Ok.item (subst (Answers c.args.lines.now c.next.new.self (change (g.S.Source.observed c.args.input.now) (g.S.Source.observed c.next.new.source))) is (e.answers is_open)) ∙ c.requires.wide)
    c.requires.empty c.in_ok-offer-in-Ok.ensures.ok

pub returns-in-Err-clause-does : goal.returns-in-Err-clause-does
returns-in-Err-clause-does g c =
    let is_open = c.requires.open in
    let e = c.in_ok-answer.ensures in
    let is : Ok (answered c.in_ok-answer.answer) ≡ Ok (Err c.in-Err.field-0) = ap (λ a. Ok a) (sym c.into_item.ensures ∙ c.in-Err.is) in
    end_feeds _ c.args.lines.now c.next.new.self (change (g.S.Source.observed c.args.input.now) (g.S.Source.observed c.next.new.source)) (Ok (answered c.in_ok-answer.answer))
    (λ bytes items given answers. c.a_stream_gives_its_items.ensures.answers _ c.args.lines.now c.next.new.self _ bytes items (Ok (answered c.in_ok-answer.answer)) given is_open (e.closed is_open) answers)
    (e.answers is_open) (e.cause is_open) (e.closed is_open) e.items is_open c.args.machine.now c.in-Err.field-0 is c.requires.empty
