-- One turn more, and one symbol more.
use Rattle.std.proofs.Common.{◌≡◌, ℕ, ◌+◌, ◌*◌, ◌%◌, ◌^◌, List, [], ◌∷◌, ◌++◌, refl, ap, sym, ◌∙◌, add-one, arith}
use Rattle.std.proofs.lemmas.List.FromFn.{map-range_with_len_more}
use Rattle.std.proofs.lemmas.Nat.{mul-mod_second}
use Rattle.benchmarks.specs.declared.kernel.Kernel.{Kernel}
use Rattle.benchmarks.specs.Turns.{after_turns, spread_symbols, turn_of}

pub after_turns_more : (kernel : Kernel) (n : ℕ) (dst src : List ℕ)
    → turn_of kernel (n % 65535 + 1) (after_turns kernel n dst src) src ≡ after_turns kernel (n + 1) dst src
unfolding after_turns
after_turns_more kernel n dst src = ap (λ k. after_turns kernel k dst src) (sym (add-one n))

pub after_turns_none : (kernel : Kernel) (dst src : List ℕ) → dst ≡ after_turns kernel 0 dst src
unfolding after_turns
after_turns_none kernel dst src = refl

pub spread_more : (factor n : ℕ)
    → spread_symbols factor n ++ (factor * (n % 2 ^ 16) % 2 ^ 16) ∷ [] ≡ spread_symbols factor (n + 1)
unfolding spread_symbols
spread_more factor n =
    ap (λ symbol. spread_symbols factor n ++ symbol ∷ []) (mul-mod_second factor n (2 ^ 16))
    ∙ sym (map-range_with_len_more (λ place. factor * place % 2 ^ 16) 0 n n (omega arith))
