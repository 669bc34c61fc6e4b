use Rattle.results.proofs.Values.{put_enter, put_hand}
use Rattle.results.proofs.put_handed.Goals as goal

pub returns-in_default : goal.returns-in_default
returns-in_default c = put_enter c.args.t _ c.in_default.is c.put_two.ensures

pub returns : goal.returns
returns c = put_hand c.args.t _ c.unpack-v.result _ _ c.in-Hand.is c.unpack-v.ensures (c.kind_word.ensures _) c.payload_word.ensures c.put_two-2.ensures
