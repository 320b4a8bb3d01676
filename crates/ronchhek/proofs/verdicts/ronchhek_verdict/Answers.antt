-- The figures of the search of the sheet, packed. Assumes nothing.
use Rattle.search.specs.Claim.{figures}
use Rattle.search.proofs.ClaimLaws.{slots_few}
use Rattle.ronchhek.proofs.VerdictLaws.{search_low}
use Rattle.ronchhek.proofs.verdicts.ronchhek_verdict.Goals as goal

pub pack-requires : goal.pack-requires
pack-requires c = search_low (slots_few _) c.search_sheet.ensures

pub returns : goal.returns
returns c =
    let p = c.pack.ensures in
    record { answer = figures c.search_sheet.result; search = c.search_sheet.ensures; is = p.0; L_fits = p.1; N_fits = p.2 }
