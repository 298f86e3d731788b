use Rattle.std.proofs.Common.{rules, ◌∙◌, sym}
use Rattle.p3l_opts.proofs.Apps.{as_simple, as_simple_and_free, as_faults, as_rows, no_kind}
use Rattle.p3l_opts.proofs.matches.matches_of.Goals as goal

pub returns-in-Ok-try_get_matches_from-clause-taken :
    goal.returns-in-Ok-try_get_matches_from-clause-taken
returns-in-Ok-try_get_matches_from-clause-taken c =
    let is_entry = c.in-Ok.ensures in
    sym (as_faults _ _ _ is_entry) ∙ c.in-Ok-try_get_matches_from.ensures.kinds (as_simple_and_free _ _ _ c.requires is_entry)

pub returns-in-Ok-try_get_matches_from-clause-found :
    goal.returns-in-Ok-try_get_matches_from-clause-found
returns-in-Ok-try_get_matches_from-clause-found c =
    let is_entry = c.in-Ok.ensures in
    (c.in-Ok-try_get_matches_from.ensures.matches (as_simple _ _ _ c.requires is_entry)).0 ∙ as_rows _ _ _ is_entry

pub returns-in-Err-try_get_matches_from-clause-usage :
    goal.returns-in-Err-try_get_matches_from-clause-usage
returns-in-Err-try_get_matches_from-clause-usage c usage none =
    let is_entry = c.in-Ok.ensures in
    let kinds = c.in-Err-try_get_matches_from.ensures.kinds (as_simple_and_free _ _ _ c.requires is_entry) in
    c.refusal_of.ensures.usage (search (rules, usage)) (no_kind _ c.in-Err-try_get_matches_from.error kinds (as_faults _ _ _ is_entry ∙ none))
