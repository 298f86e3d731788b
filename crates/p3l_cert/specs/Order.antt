-- The order of rows: by node, bound and cap.
use Rattle.std.specs.Prelude.{ℕ, Bool, ◌&&◌, ◌||◌, nat_lt, ◌==◌}
use Rattle.p3l_cert.specs.declared.cert.Row.{Row}
use Rattle.p3l_cert.specs.declared.cert.Key.{Key}

-- three numbers come before three others
abbrev pub are_before : ℕ → ℕ → ℕ → ℕ → ℕ → ℕ → Bool
are_before a b c x y z = nat_lt a x || (a == x && (nat_lt b y || (b == y && nat_lt c z)))

abbrev pub comes_before : Row → Row → Bool
comes_before first second = are_before first.node first.bound first.cap second.node second.bound second.cap

-- a row comes before that of a key
abbrev pub is_below : Row → Key → Bool
is_below row k = are_before row.node row.bound row.cap k.node k.bound k.cap

abbrev pub key_before : Key → Key → Bool
key_before first second = are_before first.node first.bound first.cap second.node second.bound second.cap
