use Rattle.std.proofs.Common.{◌≡◌, ◌+◌, ◌++◌, ◌≤◌, ◌∙◌, List, ℕ, false, length, ap, refl, subst, sym}
use Rattle.p3l_io.specs.Change.{change}
use Rattle.p3l_stream.specs.Answers.{answer_for}
use Rattle.p3l_stream.specs.Seen.{Seen}
use Rattle.p3l_stream.proofs.Parts.{stands_first}
use Rattle.p3l_stream.proofs.PartlyRead.{fits_first, holds_only, holds_so_far, is_filled_read, is_read, nearer, takes_so_far}
use Rattle.p3l_stream.proofs.Pieces.{not_both}
use Rattle.p3l_stream.proofs.Reading.{IsOnWay, answers_in_vain, answers_last, few_left, finds_in_piece, goes_on, starts, takes_more, takes_passing}
use Rattle.p3l_stream.proofs.Requests.{gets, no_cause}
use Rattle.p3l_stream.proofs.lines.Lines.read_on.Goals as goal

pub loop-self-init : goal.loop-self-init
loop-self-init g c =
    let words : c.self.inside.words ≡ c.args.self.now.words = ap (λ (s : Seen). s.words) c.self.view_is in
    record {
      so_far = c.args.self.now.held;
      way = starts _ _ c.requires.within c.requires.below c.requires.line;
      stands = rw c.new-part.ensures (stands_first c.self.inside.words c.args.self.now.held c.requires.line);
      fits = rw c.new-part.ensures (fits_first c.args.self.now c.self.inside.words words
          (subst (λ (s : Seen). s.passed + length s.held ≤ s.taken) c.self.view_is c.self.invariant.1));
      same = refl;
      still = λ ends. refl;
    }

pub returns-in_err-take_piece-clause-answers : goal.returns-in_err-take_piece-clause-answers
returns-in_err-take_piece-clause-answers g c =
    let way = c.loop-self.invariant.way in
    let so_far : List ℕ = c.loop-self.invariant.so_far in
    let requests = c.in_err-take_piece.ensures.requests in
    let is_open : c.loop-self.self.at_end ≡ false = ap (λ (s : Seen). s.at_end) (sym c.self-in-loop-self.view_is) ∙ c.loop-self-test.true in
    answers_in_vain _ _ _ _ (way.got ++ requests.0) c.from_residual.ensures.0
    (takes_passing _ _ c.take_piece.new.self _ _ (takes_more _ _ _ _ _ _ _ _ _ way.takes is_open (takes_so_far _ _ _ requests.0 _ so_far so_far requests.1)) refl)

pub returns-in_err-line-clause-answers : goal.returns-in_err-line-clause-answers
returns-in_err-line-clause-answers g c =
    let way = c.loop-self.invariant.way in
    let so_far : List ℕ = c.loop-self.invariant.so_far in
    let is_open : c.loop-self.self.at_end ≡ false = ap (λ (s : Seen). s.at_end) (sym c.self-in-loop-self.view_is) ∙ c.loop-self-test.true in
    let got = gets _ _ _ _ c.in_ok-take_piece.ensures.requests (sym c.is_err.ensures.value ∙ c.if-is_err.false) in
    answers_in_vain _ _ _ _ (way.got ++ got.piece) c.from_residual-in_err-line.ensures.0
    (takes_passing _ _ _ _ _ (takes_more _ _ _ _ _ _ _ _ _ way.takes is_open (takes_so_far _ _ _ got.piece _ so_far so_far got.took)) c.in_err-line.ensures.err)

pub returns-in-Some-clause-answers : goal.returns-in-Some-clause-answers
returns-in-Some-clause-answers g c =
    let way = c.loop-self.invariant.way in
    let so_far : List ℕ = c.loop-self.invariant.so_far in
    let is_open : c.loop-self.self.at_end ≡ false = ap (λ (s : Seen). s.at_end) (sym c.self-in-loop-self.view_is) ∙ c.loop-self-test.true in
    let got = gets _ _ _ _ c.in_ok-take_piece.ensures.requests (sym c.is_err.ensures.value ∙ c.if-is_err.false) in
    let passed = is_filled_read _ _ _ _ _ (c.in_ok-line.ensures.ok c.loop-self.self.held so_far got.piece (ap (λ (s : Seen). s.held) got.took.after) c.loop-self.invariant.stands) c.in-Some.is in
    finds_in_piece _ _ _ _ _ _ _ got.piece c.in-Some.line _ way is_open (takes_so_far _ _ _ got.piece _ so_far (so_far ++ got.piece) got.took) passed
    (c.answer_for.ensures ∙ ap (λ (s : Seen). answer_for c.in-Some.line s.passed) c.self-in-loop-self-3.view_is)

pub returns-in-Some-clause-few : goal.returns-in-Some-clause-few
returns-in-Some-clause-few g c one =
    let way = c.loop-self.invariant.way in
    let so_far : List ℕ = c.loop-self.invariant.so_far in
    let got = gets _ _ _ _ c.in_ok-take_piece.ensures.requests (sym c.is_err.ensures.value ∙ c.if-is_err.false) in
    let passed = is_filled_read _ _ _ _ _ (c.in_ok-line.ensures.ok c.loop-self.self.held so_far got.piece (ap (λ (s : Seen). s.held) got.took.after) c.loop-self.invariant.stands) c.in-Some.is in
    few_left _ _ _ _ got.piece c.in-Some.line way.is_line (takes_so_far _ _ _ got.piece _ so_far (so_far ++ got.piece) got.took) passed

pub loop-self-smaller-in_ok-read_ahead : goal.loop-self-smaller-in_ok-read_ahead
loop-self-smaller-in_ok-read_ahead g c =
    let so_far : List ℕ = c.loop-self.invariant.so_far in
    let is_open : c.loop-self.self.at_end ≡ false = ap (λ (s : Seen). s.at_end) (sym c.self-in-loop-self.view_is) ∙ c.loop-self-test.true in
    let got = gets _ _ _ _ c.in_ok-take_piece.ensures.requests (sym c.is_err.ensures.value ∙ c.if-is_err.false) in
    let read = is_read _ _ _ _ (c.in_ok-line.ensures.ok c.loop-self.self.held so_far got.piece (ap (λ (s : Seen). s.held) got.took.after) c.loop-self.invariant.stands) c.in_default.is in
    nearer c.loop-self.self c.take_piece.new.self c.pass_read.new.self c.read_ahead.new.self _ got.piece _ (so_far ++ got.piece) c.pass_read.new.part is_open got.took got.moves read c.in_ok-read_ahead.ensures.same

pub loop-self-preserved-in_ok-read_ahead : goal.loop-self-preserved-in_ok-read_ahead
loop-self-preserved-in_ok-read_ahead g c =
    let way = c.loop-self.invariant.way in
    let so_far : List ℕ = c.loop-self.invariant.so_far in
    let is_open : c.loop-self.self.at_end ≡ false = ap (λ (s : Seen). s.at_end) (sym c.self-in-loop-self.view_is) ∙ c.loop-self-test.true in
    let fine = sym c.is_err.ensures.value ∙ c.if-is_err.false in
    let got = gets _ _ _ _ c.in_ok-take_piece.ensures.requests fine in
    let read = is_read _ _ _ _ (c.in_ok-line.ensures.ok c.loop-self.self.held so_far got.piece (ap (λ (s : Seen). s.held) got.took.after) c.loop-self.invariant.stands) c.in_default.is in
    record {
      so_far = read.so_far;
      way = subst (λ (s : Seen). IsOnWay c.args.self.now s (change (g.S.Source.observed c.args.source.now) (g.S.Source.observed c.take_piece.new.source))) (sym (holds_so_far c.pass_read.new.self c.read_ahead.new.self read.so_far c.in_ok-read_ahead.ensures.same))
          (goes_on _ _ _ _ _ _ _ got.piece way is_open (takes_so_far _ _ _ got.piece _ so_far (so_far ++ got.piece) got.took) read.passed read.stands.line_is);
      stands = c.in_ok-read_ahead.ensures.ok read.so_far read.stands;
      fits = c.in_ok-read_ahead.ensures.fits;
      same = no_cause _ _ c.in_ok-take_piece.ensures.cause fine ∙ c.loop-self.invariant.same;
      still = λ ends. absurd (not_both c.loop-self.self.at_end (way.takes.once ends).1 is_open);
    }

pub returns-in_err-read_ahead-clause-answers : goal.returns-in_err-read_ahead-clause-answers
returns-in_err-read_ahead-clause-answers g c =
    let way = c.loop-self.invariant.way in
    let so_far : List ℕ = c.loop-self.invariant.so_far in
    let is_open : c.loop-self.self.at_end ≡ false = ap (λ (s : Seen). s.at_end) (sym c.self-in-loop-self.view_is) ∙ c.loop-self-test.true in
    let got = gets _ _ _ _ c.in_ok-take_piece.ensures.requests (sym c.is_err.ensures.value ∙ c.if-is_err.false) in
    let read = is_read _ _ _ _ (c.in_ok-line.ensures.ok c.loop-self.self.held so_far got.piece (ap (λ (s : Seen). s.held) got.took.after) c.loop-self.invariant.stands) c.in_default.is in
    let next = goes_on _ _ _ _ _ _ _ got.piece way is_open (takes_so_far _ _ _ got.piece _ so_far (so_far ++ got.piece) got.took) read.passed read.stands.line_is in
    answers_in_vain _ _ _ _ next.got c.from_residual-in_err-read_ahead.ensures.0
    (takes_passing _ _ _ _ _ next.takes (holds_only c.pass_read.new.self c.read_ahead.new.self read.so_far c.in_err-read_ahead.ensures.same))

pub loop-self-preserved : goal.loop-self-preserved
loop-self-preserved g c =
    let way = c.loop-self.invariant.way in
    let so_far : List ℕ = c.loop-self.invariant.so_far in
    let is_open : c.loop-self.self.at_end ≡ false = ap (λ (s : Seen). s.at_end) (sym c.self-in-loop-self.view_is) ∙ c.loop-self-test.true in
    let fine = sym c.is_err.ensures.value ∙ c.if-is_err.false in
    let got = gets _ _ _ _ c.in_ok-take_piece.ensures.requests fine in
    let read = is_read _ _ _ _ (c.in_ok-line.ensures.ok c.loop-self.self.held so_far got.piece (ap (λ (s : Seen). s.held) got.took.after) c.loop-self.invariant.stands) c.in_default.is in
    record {
      so_far = read.so_far;
      way = goes_on _ _ _ _ _ _ _ got.piece way is_open (takes_so_far _ _ _ got.piece _ so_far (so_far ++ got.piece) got.took) read.passed read.stands.line_is;
      stands = read.stands;
      fits = read.fits;
      same = no_cause _ _ c.in_ok-take_piece.ensures.cause fine ∙ c.loop-self.invariant.same;
      still = λ ends. absurd (not_both c.loop-self.self.at_end (way.takes.once ends).1 is_open);
    }

pub returns-then-self-2-clause-answers : goal.returns-then-self-2-clause-answers
returns-then-self-2-clause-answers g c =
    answers_last _ _ _ _ c.in_ok-line-2.line _ c.loop-self.invariant.way
    (ap (λ (s : Seen). s.at_end) (sym c.self-2.view_is) ∙ c.if-self-2.true)
    (c.in_ok-line-2.ensures.ok c.loop-self.invariant.so_far c.loop-self.invariant.stands)
    (c.answer_for-then-self-2.ensures ∙ ap (λ (s : Seen). answer_for c.in_ok-line-2.line s.passed) c.self-then-self-2.view_is)
