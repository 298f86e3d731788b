use Rattle.std.proofs.Common.{◌≡◌, sym, ◌∙◌}
use Rattle.p3l_reader.proofs.FirstFault.{only_residual, spelled_entries, spelled_program}
use Rattle.p3l_reader.proofs.source.read.Goals as goal

pub returns-in_err-entries-clause-only : goal.returns-in_err-entries-clause-only
returns-in_err-entries-clause-only c = λ l program s.
    let a = c.in_ok-tokens.ensures.only s.tokens s.are_tokens in
    let b = c.as_slice.ensures in
    let v = c.tokens-2.view_is in
    let same : s.tokens ≡ c.as_slice.result.now = cc in
    let d = spelled_entries c.args.text.now c.as_slice.result.now program s same in
    only_residual program _ c.in_err-entries.field-0.0 program.entries c.from_residual-in_err-entries.ensures.1 (c.in_err-entries.ensures.only program.entries d.0 d.1)

pub returns-clause-only : goal.returns-clause-only
returns-clause-only c = λ l program s.
    let a = c.in_ok-tokens.ensures.only s.tokens s.are_tokens in
    let b = c.as_slice.ensures in
    let v = c.tokens-2.view_is in
    let same : s.tokens ≡ c.as_slice.result.now = cc in
    let d = spelled_entries c.args.text.now c.as_slice.result.now program s same in
    let e = c.in_ok-entries.ensures.only program.entries d.0 d.1 in
    spelled_program _ c.end_of-end.result program e (c.end_of-end.ensures ∙ sym s.end_is)
