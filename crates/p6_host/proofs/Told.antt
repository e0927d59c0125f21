-- What C is told of an answer, given what the callee says the answer is.

-- ---- what an undo's answer says of the trigger
