use mathlib.Core.Path.{◌≡◌, refl, sym}
use lib.ListN.{length}
use lib.Seq.{length-take-le}
use Rattle.wall.proofs.Texts.{text_short, text_laid}
use borrow.Author.Rules.{rules}
use Rattle.wall.proofs.refused.Goals as goal

pub slice_bounds-bytes-end : goal.slice_bounds-bytes-end
slice_bounds-bytes-end c = let h : length c.refused-said.result.bytes ≡ 128 = search rules in text_short _ _ h c.refused-said.ensures

pub slice_bounds-copy-end : goal.slice_bounds-copy-end
slice_bounds-copy-end c = let h : length c.refused-said.result.bytes ≡ 128 = search rules in sym (length-take-le _ _ (text_short _ _ h c.refused-said.ensures))

pub returns : goal.returns
returns c = let h : length c.refused-said.result.bytes ≡ 128 = search rules in text_laid _ _ _ _ _ _ h refl c.refused-said.ensures c.requires c.copy.ensures
