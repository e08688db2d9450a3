-- What turns of a kernel leave of a vector.
use Rattle.std.specs.Prelude.{ℕ, zero, suc, ◌+◌, ◌*◌, ◌%◌, ◌^◌, List, [], ◌∷◌, map, slice_set}
use Rattle.std.specs.List.{range_with_len}
use Rattle.gf16.specs.Field.{sum_of, total_of}
use Rattle.gf16.specs.Sums.{plus_scaled, scaled, dot_of}
use Rattle.benchmarks.specs.declared.kernel.Kernel.{Kernel}
use Rattle.benchmarks.specs.declared.kernel.Kernel.TheVariants.{AddScaled, Scale, Dot, Xor}

-- the sums place by place, as many as xs has
abbrev pub sums_of : List ℕ → List ℕ → List ℕ
sums_of [] ys = []
sums_of (x ∷ xs) [] = x ∷ xs
sums_of (x ∷ xs) (y ∷ ys) = sum_of x y ∷ sums_of xs ys

-- what one turn makes of dst, with a factor and a vector src
abbrev pub turn_of : Kernel → ℕ → List ℕ → List ℕ → List ℕ
turn_of AddScaled c dst src = plus_scaled dst c src
turn_of Scale c dst src = scaled c dst
turn_of Dot c dst src = slice_set dst 0 (dot_of dst src)
turn_of Xor c dst src = sums_of dst src

-- what n turns leave of dst; the factor changes from turn to turn and is never 0
unfoldable pub after_turns : Kernel → ℕ → List ℕ → List ℕ → List ℕ
after_turns kernel zero dst src = dst
after_turns kernel (suc n) dst src = turn_of kernel (n % 65535 + 1) (after_turns kernel n dst src) src

-- symbols of many values: a factor times each place, cut to 16 bits
unfoldable pub spread_symbols : ℕ → ℕ → List ℕ
spread_symbols factor len = map (λ place. factor * place % 2 ^ 16) (range_with_len 0 len)

-- the sum of all symbols that the turns leave
unfoldable pub sum_after : Kernel → ℕ → ℕ → ℕ
sum_after kernel turns len = total_of (after_turns kernel turns (spread_symbols 1 len) (spread_symbols 40503 len))
