use Rattle.std.proofs.Common.{◌≡◌, ◌<◌, ◌++◌, drop, vec_items, unwrap_or}
use Rattle.std.specs.Option.{option_map}
use Rattle.hexadecimal.specs.Digits.{reading, decoded}
use Rattle.hexadecimal.proofs.digits.decode.Given as goal

abbrev pub invariant-loop-c : goal.invariant-loop-c
invariant-loop-c l =
    (option_map (λ rest. vec_items l.bytes ++ rest) (reading l.high (drop l.c-index l.text)) ≡ decoded l.text)
    × (unwrap_or l.high 0 < 16)
