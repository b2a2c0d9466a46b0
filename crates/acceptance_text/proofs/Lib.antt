mod TreeLoads
