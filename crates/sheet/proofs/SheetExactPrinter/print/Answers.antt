use Rattle.wall.specs.SheetTold.{long_says}
use Rattle.sheet.proofs.SheetExactPrinter.print.Goals as goal

pub returns : goal.returns
returns c = let told = long_says _ _ _ _ c.sheet.ensures c.requires in record { len = told.0; printed = told.1 }
