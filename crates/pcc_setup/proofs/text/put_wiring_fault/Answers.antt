use Rattle.pcc_setup.proofs.text.put_wiring_fault.Goals as goal

pub returns-in-WrongRole : goal.returns-in-WrongRole
returns-in-WrongRole c = rw c.in-WrongRole.is c.put_pieces.ensures

pub returns-in-RegisterSpace : goal.returns-in-RegisterSpace
returns-in-RegisterSpace c = rw (c.in-RegisterSpace.is, ← c.role_word.ensures) c.put_pieces-in-RegisterSpace.ensures

pub returns-in-RegisterWidth : goal.returns-in-RegisterWidth
returns-in-RegisterWidth c = rw (c.in-RegisterWidth.is, ← c.role_word-in-RegisterWidth.ensures) c.put_pieces-in-RegisterWidth.ensures

pub returns-in-NeverSets : goal.returns-in-NeverSets
returns-in-NeverSets c = rw c.in-NeverSets.is c.put_pieces-in-NeverSets.ensures

pub returns-in-UnknownType : goal.returns-in-UnknownType
returns-in-UnknownType c = rw c.in-UnknownType.is c.put_numbered.ensures
