-- Combinations of combinations, and combinations of packets: of whole vectors, and of packets that are true to blocks.
use Rattle.std.proofs.Common.{◌≡◌, ℕ, ◌+◌, List, [], ◌∷◌, ◌++◌, length, map, ap, ap₂, sym, ◌∙◌, arith}
use Rattle.std.specs.List.{All}
use Rattle.std.proofs.lemmas.List.{replicate-append-replicate}
use Rattle.std.proofs.lemmas.List.Elements.{All-head, All-tail}
use Rattle.gf16.specs.Field.{IsSymbol, IsField}
use Rattle.gf16.specs.Sums.{plus_scaled}
use Rattle.linear_spec.specs.declared.packet.Packet.{Packet}
use Rattle.linear_spec.specs.Symbols.{AreSymbols, IsVector}
use Rattle.linear_spec.specs.Combination.{combination_of}
use Rattle.linear_spec.specs.Packet.{Fits, IsTrueTo, vector_of, vectors_of, coefficients_of, payloads_of}
use Rattle.linear_spec.proofs.SpanLaws.{length-combination, combination-nil, combination-none, combination-zeros, combination-cons_any, combination-plus_scaled, append-plus_scaled}

-- a combination of combinations is a combination of these
pub combination-nested : (field : IsField) (k n : ℕ) (cs : List ℕ) (lists vs : List (List ℕ)) → AreSymbols cs → length cs ≡ length lists
    → All (IsVector k) lists → length vs ≡ k → All (IsVector n) vs
    → combination_of n (combination_of k cs lists) vs ≡ combination_of n cs (map (λ list. combination_of n list vs) lists)
combination-nested field k n cs [] vs symbols same by_lists count by_vs =
    ap (λ u. combination_of n u vs) (combination-nil k cs) ∙ combination-zeros field n k vs ∙ sym (combination-nil n cs)
combination-nested field k n [] (l ∷ ls) vs symbols same by_lists count by_vs = absurd (omega arith)
combination-nested field k n (c ∷ cs) (l ∷ ls) vs symbols same by_lists count by_vs =
    let first = All-head (IsVector k) l ls by_lists in
    let image = λ (list : List ℕ). combination_of n list vs in
    ap image (combination-cons_any field k c cs l ls)
    ∙ combination-plus_scaled field n c (combination_of k cs ls) l vs by_vs (All-head IsSymbol c cs symbols)
    (length-combination k cs ls ∙ sym count) (first.count ∙ sym count)
    ∙ ap (λ u. plus_scaled u c (image l))
    (combination-nested field k n cs ls vs (All-tail IsSymbol c cs symbols) (omega arith) (All-tail (IsVector k) l ls by_lists) count by_vs)
    ∙ sym (combination-cons_any field n c cs (image l) (map image ls))

-- a combination of packets' vectors is that of their coefficients, then that of their payloads
pub combination-packets : (field : IsField) (k s : ℕ) (cs : List ℕ) (packets : List Packet) → All (Fits k s) packets
    → combination_of (k + s) cs (vectors_of packets)
    ≡ combination_of k cs (coefficients_of packets) ++ combination_of s cs (payloads_of packets)
combination-packets field k s cs [] fit =
    combination-nil (k + s) cs ∙ sym (replicate-append-replicate k s 0)
    ∙ ap₂ (λ a b. a ++ b) (sym (combination-nil k cs)) (sym (combination-nil s cs))
combination-packets field k s [] (p ∷ ps) fit =
    combination-none (k + s) (vectors_of (p ∷ ps)) ∙ sym (replicate-append-replicate k s 0)
    ∙ ap₂ (λ a b. a ++ b) (sym (combination-none k (coefficients_of (p ∷ ps)))) (sym (combination-none s (payloads_of (p ∷ ps))))
combination-packets field k s (c ∷ cs) (p ∷ ps) fit =
    let first = All-head (Fits k s) p ps fit in
    let front = combination_of k cs (coefficients_of ps) in
    let back = combination_of s cs (payloads_of ps) in
    combination-cons_any field (k + s) c cs (vector_of p) (vectors_of ps)
    ∙ ap (λ u. plus_scaled u c (vector_of p)) (combination-packets field k s cs ps (All-tail (Fits k s) p ps fit))
    ∙ append-plus_scaled c front p.coeffs back p.payload (length-combination k cs (coefficients_of ps) ∙ sym first.coeffs.count)
    ∙ ap₂ (λ a b. a ++ b)
    (sym (combination-cons_any field k c cs p.coeffs (coefficients_of ps)))
    (sym (combination-cons_any field s c cs p.payload (payloads_of ps)))

-- a combination of packets that are true to blocks is true to them
pub combination-true : (field : IsField) (k s : ℕ) (cs : List ℕ) (packets : List Packet) (blocks : List (List ℕ)) → AreSymbols cs
    → length cs ≡ length packets → All (Fits k s) packets → All (IsTrueTo s blocks) packets → length blocks ≡ k → All (IsVector s) blocks
    → combination_of s (combination_of k cs (coefficients_of packets)) blocks ≡ combination_of s cs (payloads_of packets)
combination-true field k s cs [] blocks symbols same fit true count vectors =
    ap (λ u. combination_of s u blocks) (combination-nil k cs) ∙ combination-zeros field s k blocks ∙ sym (combination-nil s cs)
combination-true field k s [] (p ∷ ps) blocks symbols same fit true count vectors = absurd (omega arith)
combination-true field k s (c ∷ cs) (p ∷ ps) blocks symbols same fit true count vectors =
    let first = All-head (Fits k s) p ps fit in
    let front = combination_of k cs (coefficients_of ps) in
    ap (λ u. combination_of s u blocks) (combination-cons_any field k c cs p.coeffs (coefficients_of ps))
    ∙ combination-plus_scaled field s c front p.coeffs blocks vectors (All-head IsSymbol c cs symbols)
    (length-combination k cs (coefficients_of ps) ∙ sym count) (first.coeffs.count ∙ sym count)
    ∙ ap₂ (λ u v. plus_scaled u c v)
    (combination-true field k s cs ps blocks (All-tail IsSymbol c cs symbols) (omega arith) (All-tail (Fits k s) p ps fit)
    (All-tail (IsTrueTo s blocks) p ps true) count vectors)
    (All-head (IsTrueTo s blocks) p ps true)
    ∙ sym (combination-cons_any field s c cs p.payload (payloads_of ps))
