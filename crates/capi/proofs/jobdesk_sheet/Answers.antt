use mathlib.Core.Path.{refl}
use Rattle.capi.proofs.SheetTold.{sheet_told}
use Rattle.capi.proofs.jobdesk_sheet.Goals as goal

pub returns : goal.returns
returns c = sheet_told _ _ _ _ _ _ _ _ _ c.sheet-told.ensures refl refl c.put_two.ensures c.from.ensures
