use Rattle.pcc_setup.proofs.text.put_open_fault.Goals as goal

pub returns-in-NoSubspace : goal.returns-in-NoSubspace
returns-in-NoSubspace c = rw c.in-NoSubspace.is c.put_pieces.ensures

pub returns-in-OpenedTwice : goal.returns-in-OpenedTwice
returns-in-OpenedTwice c = rw c.in-OpenedTwice.is c.put_pieces-in-OpenedTwice.ensures

pub returns-in-ImageLong : goal.returns-in-ImageLong
returns-in-ImageLong c = rw c.in-ImageLong.is c.put_pieces-in-ImageLong.ensures
