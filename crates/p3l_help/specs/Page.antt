-- Pages by their topics.
use Rattle.std.specs.Prelude.{ℕ, List, Option, find, bytes_eq}
use Rattle.std.specs.Option.{option_map}
use Rattle.p3l_help.specs.declared.page.Page.{Page}

-- the text of the first of these pages that is on the topic
abbrev pub text_among : List Page → List ℕ → Option (List ℕ)
text_among pages topic = option_map (λ page. page.text.now) (find (λ page. bytes_eq page.topic.now topic) pages)
