-- `entries_ok`: the chain asks each entry.
use Rattle.std.proofs.Common.{rules, tests, ◌∙◌}
use Rattle.std.proofs.lemmas.Iterator.{YieldsList-from_slice}
use Rattle.std.proofs.lemmas.Iterator.Search.{all_from_yields_List}
use Rattle.meaning.specs.Sound.{entry_ok}
use Rattle.judge.proofs.RowSteps.{all_every}
use Rattle.judge.proofs.rows.entries_ok.Goals as goal

pub returns : goal.returns
returns c =
    all_from_yields_List entry_ok _ _ c.all.result c.all.ensures.ran (YieldsList-from_slice c.args.entries.now cc) (λ x b q k. search (rules, tests))
    ∙ all_every entry_ok _
