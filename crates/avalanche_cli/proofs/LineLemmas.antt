-- A line that is made of one text after another, and how it is written.
use Rattle.std.proofs.Common.{◌≡◌, ℕ, List, ◌++◌, length, take_all, subst, sym, ap, ◌∙◌, append_assoc, arith}
use Rattle.std.specs.Prelude.{Option, Result, Ok, Err, OnOk, OnErr}
use Rattle.std.specs.Io.KnownBytes.{Appends}
use Rattle.swarm_io.specs.Moved.{AppendsPrefix}

pub then_two : (line one two a b : List ℕ) → a ≡ line ++ one → b ≡ a ++ two → b ≡ line ++ (one ++ two)
then_two line one two a b first second = second ∙ ap (λ (l : List ℕ). l ++ two) first ∙ append_assoc line one two

pub then_four : (line one two three four a b c d : List ℕ) → a ≡ line ++ one → b ≡ a ++ two → c ≡ b ++ three → d ≡ c ++ four → d ≡ line ++ (one ++ (two ++ (three ++ four)))
then_four line one two three four a b c d first second third fourth =
    let back = then_two b three four c d third fourth in
    let more = then_two a two (three ++ four) b d second back in
    then_two line one (two ++ (three ++ four)) a d first more

-- all of the bytes are a prefix of them
pub prefix_written : {A E : Type 0} (before now : Option (List ℕ)) (bytes : List ℕ) (result : Result A E) → OnOk result (Appends before now bytes) → OnErr result (AppendsPrefix before now bytes) → AppendsPrefix before now bytes
prefix_written before now bytes (Ok value) all some = (length bytes, omega arith, subst (λ (l : List ℕ). Appends before now l) (sym (take_all (length bytes) bytes (omega arith))) all)
prefix_written before now bytes (Err error) all some = some
