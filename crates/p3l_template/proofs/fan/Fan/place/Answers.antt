-- The elements added so far, call by call.
use Rattle.std.proofs.Common.{◌≡◌, ◌+◌, ℕ, length, [], ◌∷◌, ◌++◌, replicate, ap, ap₂, ◌∙◌, append_assoc, length-append}
use Rattle.std.proofs.lemmas.List.{replicate-append-replicate, length-replicate}
use Rattle.p3l_template.specs.Shape.{base_of, empty_chan, numbers_from}
use Rattle.p3l_template.specs.Fan.{fan_procs}
use Rattle.p3l_template.proofs.fan.Fan.place.Goals as goal

pub returns-clause-placed : goal.returns-clause-placed
returns-clause-placed c =
    let base = base_of c.args.at.now c.args.builder.now in
    let node : ℕ = c.args.self.now.node in
    let n : ℕ = c.args.self.now.workers in
    let more : length c.channels.new.self.chans ≡ length c.args.builder.now.chans + n =
    ap (λ b. length b.chans) c.in_ok-to_workers.ensures.added ∙ length-append c.args.builder.now.chans _
    ∙ ap (λ z. length c.args.builder.now.chans + z) (length-replicate n (empty_chan c.args.cap)) in
    let procs : c.process-2.new.self.procs
    ≡ c.args.builder.now.procs ++ fan_procs c.args.self.now.first c.args.self.now.last node n base =
    ap (λ b. b.procs) c.in_ok-_last.ensures.added
    ∙ ap₂ (λ x y. x ++ y ∷ [])
    (ap (λ b. b.procs) c.in_ok-_first.ensures.added
    ∙ ap₂ (λ x y. x ++ y ∷ [])
    (ap (λ b. b.procs) c.in_ok-from_workers.ensures.added ∙ ap (λ b. b.procs) c.in_ok-to_workers.ensures.added)
    (ap₂ (λ x y. record { kind = c.args.self.now.first; node = node; arg = 0; ins = x; outs = y }) c.in_ok-input.ensures
    c.in_ok-to_workers.ensures.numbers))
    (ap₂ (λ x y. record { kind = c.args.self.now.last; node = node; arg = 0; ins = x; outs = y })
    (c.in_ok-from_workers.ensures.numbers ∙ ap (λ z. numbers_from z n) more) c.in_ok-output.ensures)
    ∙ append_assoc c.args.builder.now.procs _ _ in
    let chans : c.process-2.new.self.chans ≡ c.args.builder.now.chans ++ replicate (n + n) (empty_chan c.args.cap) =
    ap (λ b. b.chans) c.in_ok-_last.ensures.added ∙ ap (λ b. b.chans) c.in_ok-_first.ensures.added
    ∙ ap (λ b. b.chans) c.in_ok-from_workers.ensures.added
    ∙ ap (λ z. z ++ replicate n (empty_chan c.args.cap)) (ap (λ b. b.chans) c.in_ok-to_workers.ensures.added)
    ∙ append_assoc c.args.builder.now.chans _ _
    ∙ ap (λ z. c.args.builder.now.chans ++ z) (replicate-append-replicate n n (empty_chan c.args.cap)) in
    ap₂ (λ x y. record { procs = x; chans = y }) procs chans
