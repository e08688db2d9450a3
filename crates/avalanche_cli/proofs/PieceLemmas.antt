-- Pieces of a list, one for each number up to a count or for each member of another list.
use Rattle.std.proofs.Common.{◌≡◌, ℕ, ◌+◌, ◌<◌, List, [], ◌∷◌, ◌++◌, length, map, take, get_or, ap, ap₂, sym, ◌∙◌, append-nil, append_assoc, arith}
use Rattle.std.specs.List.{All, flat_map, range_with_len}
use Rattle.std.proofs.lemmas.List.Elements.{All-append, All-head, All-nil, All-tail}
use Rattle.std.proofs.lemmas.Grind.{flat_map-append}
use Rattle.std.proofs.lemmas.List.{take_more}
use Rattle.std.proofs.lemmas.List.Folds.{flat_map-map}
use Rattle.std.proofs.lemmas.List.FromFn.{map-range_with_len_more}

-- what holds of each member of each list holds of them all
pub all_of_lists : {X Y : Type 0} (P : Y → Type 0) (f : X → List Y) (xs : List X) → All (λ x. All P (f x)) xs → All P (flat_map f xs)
all_of_lists P f [] all = All-nil P
all_of_lists P f (x ∷ xs) all =
    All-append P (f x) (flat_map f xs) (All-head (λ y. All P (f y)) x xs all) (all_of_lists P f xs (All-tail (λ y. All P (f y)) x xs all))

-- one piece more, at the end
pub pieces_more : {X : Type 0} (f : ℕ → List X) (n : ℕ) → flat_map f (range_with_len 0 (n + 1)) ≡ flat_map f (range_with_len 0 n) ++ f n
pieces_more {X = X} f n =
    let own = λ (piece : List X). piece in
    sym (flat_map-map own f (range_with_len 0 (n + 1)))
    ∙ ap (flat_map own) (map-range_with_len_more f 0 n n (omega arith))
    ∙ flat_map-append own (map f (range_with_len 0 n)) (f n ∷ [])
    ∙ ap₂ (λ a b. a ++ b) (flat_map-map own f (range_with_len 0 n)) (append-nil (f n))

-- ---- the frames of items, appended to the bytes before them

-- the frame of an item after those of a list
frame_after : {X : Type 0} (frame : X → List ℕ) (front : List X) (item : X) (before bytes after : List ℕ) → bytes ≡ before ++ flat_map frame front → after ≡ bytes ++ frame item → after ≡ before ++ flat_map frame (front ++ item ∷ [])
frame_after frame front item before bytes after so_far more =
    let last : flat_map frame (front ++ item ∷ []) ≡ flat_map frame front ++ frame item =
    flat_map-append frame front (item ∷ []) ∙ ap (λ rest. flat_map frame front ++ rest) (append-nil (frame item)) in
    more ∙ ap (λ a. a ++ frame item) so_far
    ∙ append_assoc before (flat_map frame front) (frame item)
    ∙ ap (λ rest. before ++ rest) (sym last)

-- the frame of one item more
pub frame_more : {X : Type 0} (frame : X → List ℕ) (f : ℕ → X) (first i : ℕ) (before bytes after : List ℕ) (item : X) → bytes ≡ before ++ flat_map frame (map f (range_with_len first i)) → item ≡ f (first + i) → after ≡ bytes ++ frame item → after ≡ before ++ flat_map frame (map f (range_with_len first (i + 1)))
frame_more frame f first i before bytes after item so_far is more =
    let front = map f (range_with_len first i) in
    frame_after frame front (f (first + i)) before bytes after so_far (more ∙ ap (λ x. bytes ++ frame x) is)
    ∙ ap (λ items. before ++ flat_map frame items) (sym (map-range_with_len_more f first i (first + i) (omega arith)))

-- that of one item more of a list
pub frame_taken : {X : Type 0} (frame : X → List ℕ) (items : List X) (i : ℕ) (before bytes after : List ℕ) (item : X) → i < length items → item ≡ get_or items i item → bytes ≡ before ++ flat_map frame (take i items) → after ≡ bytes ++ frame item → after ≡ before ++ flat_map frame (take (i + 1) items)
frame_taken frame items i before bytes after item below is so_far more =
    frame_after frame (take i items) item before bytes after so_far more
    ∙ ap (λ x. before ++ flat_map frame (take i items ++ x ∷ [])) is
    ∙ ap (λ front. before ++ flat_map frame front) (sym (take_more items i item below))

-- the frames of one list more
pub frames_more : {X : Type 0} (frame : X → List ℕ) (f : ℕ → List X) (g : ℕ) (before bytes after : List ℕ) → bytes ≡ before ++ flat_map frame (flat_map f (range_with_len 0 g)) → after ≡ bytes ++ flat_map frame (f g) → after ≡ before ++ flat_map frame (flat_map f (range_with_len 0 (g + 1)))
frames_more frame f g before bytes after so_far more =
    let front = flat_map f (range_with_len 0 g) in
    more ∙ ap (λ a. a ++ flat_map frame (f g)) so_far
    ∙ append_assoc before (flat_map frame front) (flat_map frame (f g))
    ∙ ap (λ rest. before ++ rest) (sym (flat_map-append frame front (f g)) ∙ ap (flat_map frame) (sym (pieces_more f g)))
