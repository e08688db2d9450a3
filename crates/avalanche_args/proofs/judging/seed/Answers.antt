use Rattle.std.proofs.Common.{◌∙◌, ap, sym, [], ◌∷◌, Err}
use Rattle.avalanche_args.specs.Options.{bare, block, blocks, checks, key, peer, seed_coded}
use Rattle.avalanche_args.specs.declared.command.CommandName.TheVariants as name
use Rattle.avalanche_args.proofs.JudgingLemmas.{exits, judged_right, judged_wrong, none_left, passes, stops}
use Rattle.avalanche_args.proofs.judging.seed.Goals as goal

pub returns-in_err-k-clause-value : goal.returns-in_err-k-clause-value
returns-in_err-k-clause-value c =
    let first = stops blocks (block ∷ checks ∷ key ∷ peer ∷ seed_coded ∷ bare ∷ []) _ c.in_err-k.ensures.judged.0 in
    exits c.from_residual.result c.in_err-k.field-0.0 c.from_residual.ensures.1 ∙ ap Err c.in_err-k.ensures.judged.1
    ∙ sym (judged_wrong name.Seed _ blocks first)

pub returns-in_err-block-clause-value : goal.returns-in_err-block-clause-value
returns-in_err-block-clause-value c =
    let first = passes blocks (block ∷ checks ∷ key ∷ peer ∷ seed_coded ∷ bare ∷ []) _ c.in_ok-k.ensures.judged.0
    ∙ stops block (checks ∷ key ∷ peer ∷ seed_coded ∷ bare ∷ []) _ c.in_err-block.ensures.judged.0 in
    exits c.from_residual-in_err-block.result c.in_err-block.field-0.0 c.from_residual-in_err-block.ensures.1 ∙ ap Err c.in_err-block.ensures.judged.1
    ∙ sym (judged_wrong name.Seed _ block first)

pub returns-in_err-checks-clause-value : goal.returns-in_err-checks-clause-value
returns-in_err-checks-clause-value c =
    let first = passes blocks (block ∷ checks ∷ key ∷ peer ∷ seed_coded ∷ bare ∷ []) _ c.in_ok-k.ensures.judged.0
    ∙ passes block (checks ∷ key ∷ peer ∷ seed_coded ∷ bare ∷ []) _ c.in_ok-block.ensures.judged.0
    ∙ stops checks (key ∷ peer ∷ seed_coded ∷ bare ∷ []) _ c.in_err-checks.ensures.judged.0 in
    exits c.from_residual-in_err-checks.result c.in_err-checks.field-0.0 c.from_residual-in_err-checks.ensures.1 ∙ ap Err c.in_err-checks.ensures.judged.1
    ∙ sym (judged_wrong name.Seed _ checks first)

pub returns-in_err-key-clause-value : goal.returns-in_err-key-clause-value
returns-in_err-key-clause-value c =
    let first = passes blocks (block ∷ checks ∷ key ∷ peer ∷ seed_coded ∷ bare ∷ []) _ c.in_ok-k.ensures.judged.0
    ∙ passes block (checks ∷ key ∷ peer ∷ seed_coded ∷ bare ∷ []) _ c.in_ok-block.ensures.judged.0
    ∙ passes checks (key ∷ peer ∷ seed_coded ∷ bare ∷ []) _ c.in_ok-checks.ensures.judged.0
    ∙ stops key (peer ∷ seed_coded ∷ bare ∷ []) _ c.in_err-key.ensures.judged.0 in
    exits c.from_residual-in_err-key.result c.in_err-key.field-0.0 c.from_residual-in_err-key.ensures.1 ∙ ap Err c.in_err-key.ensures.judged.1
    ∙ sym (judged_wrong name.Seed _ key first)

pub returns-in_err-peer-clause-value : goal.returns-in_err-peer-clause-value
returns-in_err-peer-clause-value c =
    let first = passes blocks (block ∷ checks ∷ key ∷ peer ∷ seed_coded ∷ bare ∷ []) _ c.in_ok-k.ensures.judged.0
    ∙ passes block (checks ∷ key ∷ peer ∷ seed_coded ∷ bare ∷ []) _ c.in_ok-block.ensures.judged.0
    ∙ passes checks (key ∷ peer ∷ seed_coded ∷ bare ∷ []) _ c.in_ok-checks.ensures.judged.0
    ∙ passes key (peer ∷ seed_coded ∷ bare ∷ []) _ c.in_ok-key.ensures.judged.0
    ∙ stops peer (seed_coded ∷ bare ∷ []) _ c.in_err-peer.ensures.judged.0 in
    exits c.from_residual-in_err-peer.result c.in_err-peer.field-0.0 c.from_residual-in_err-peer.ensures.1 ∙ ap Err c.in_err-peer.ensures.judged.1
    ∙ sym (judged_wrong name.Seed _ peer first)

pub returns-in_err-coded-clause-value : goal.returns-in_err-coded-clause-value
returns-in_err-coded-clause-value c =
    let first = passes blocks (block ∷ checks ∷ key ∷ peer ∷ seed_coded ∷ bare ∷ []) _ c.in_ok-k.ensures.judged.0
    ∙ passes block (checks ∷ key ∷ peer ∷ seed_coded ∷ bare ∷ []) _ c.in_ok-block.ensures.judged.0
    ∙ passes checks (key ∷ peer ∷ seed_coded ∷ bare ∷ []) _ c.in_ok-checks.ensures.judged.0
    ∙ passes key (peer ∷ seed_coded ∷ bare ∷ []) _ c.in_ok-key.ensures.judged.0
    ∙ passes peer (seed_coded ∷ bare ∷ []) _ c.in_ok-peer.ensures.judged.0
    ∙ stops seed_coded (bare ∷ []) _ c.in_err-coded.ensures.judged.0 in
    exits c.from_residual-in_err-coded.result c.in_err-coded.field-0.0 c.from_residual-in_err-coded.ensures.1 ∙ ap Err c.in_err-coded.ensures.judged.1
    ∙ sym (judged_wrong name.Seed _ seed_coded first)

pub returns-in_err-bare-clause-value : goal.returns-in_err-bare-clause-value
returns-in_err-bare-clause-value c =
    let first = passes blocks (block ∷ checks ∷ key ∷ peer ∷ seed_coded ∷ bare ∷ []) _ c.in_ok-k.ensures.judged.0
    ∙ passes block (checks ∷ key ∷ peer ∷ seed_coded ∷ bare ∷ []) _ c.in_ok-block.ensures.judged.0
    ∙ passes checks (key ∷ peer ∷ seed_coded ∷ bare ∷ []) _ c.in_ok-checks.ensures.judged.0
    ∙ passes key (peer ∷ seed_coded ∷ bare ∷ []) _ c.in_ok-key.ensures.judged.0
    ∙ passes peer (seed_coded ∷ bare ∷ []) _ c.in_ok-peer.ensures.judged.0
    ∙ passes seed_coded (bare ∷ []) _ c.in_ok-coded.ensures.judged.0
    ∙ stops bare [] _ c.in_err-bare.ensures.judged.0 in
    exits c.from_residual-in_err-bare.result c.in_err-bare.field-0.0 c.from_residual-in_err-bare.ensures.1 ∙ ap Err c.in_err-bare.ensures.judged.1
    ∙ sym (judged_wrong name.Seed _ bare first)

pub returns-clause-value : goal.returns-clause-value
returns-clause-value c =
    let none = passes blocks (block ∷ checks ∷ key ∷ peer ∷ seed_coded ∷ bare ∷ []) _ c.in_ok-k.ensures.judged.0
    ∙ passes block (checks ∷ key ∷ peer ∷ seed_coded ∷ bare ∷ []) _ c.in_ok-block.ensures.judged.0
    ∙ passes checks (key ∷ peer ∷ seed_coded ∷ bare ∷ []) _ c.in_ok-checks.ensures.judged.0
    ∙ passes key (peer ∷ seed_coded ∷ bare ∷ []) _ c.in_ok-key.ensures.judged.0
    ∙ passes peer (seed_coded ∷ bare ∷ []) _ c.in_ok-peer.ensures.judged.0
    ∙ passes seed_coded (bare ∷ []) _ c.in_ok-coded.ensures.judged.0
    ∙ passes bare [] _ c.in_ok-bare.ensures.judged.0
    ∙ none_left _ in
    rw (c.in_ok-k.ensures.judged.1, c.in_ok-block.ensures.judged.1, c.in_ok-checks.ensures.judged.1, c.in_ok-key.ensures.judged.1, c.in_ok-peer.ensures.judged.1, c.in_ok-coded.ensures.judged.1, c.in_ok-bare.ensures.judged.1) (sym (judged_right name.Seed _ none))
